-- A line read character after character.
use Rattle.std.proofs.Common.{◌≡◌, ℕ, ◌+◌, ◌*◌, ◌/◌, ◌%◌, ◌<◌, true, false, not, cond, List, [], ◌∷◌, ◌++◌, length, get_or, take, drop, map, filter, Option, Some, None, is_some, refl, sym, ap, ◌∙◌, append_assoc, append-nil, length-append, arith}
use Rattle.std.proofs.lemmas.List.{map-append, length-map, take_more, take-append-drop}
use Rattle.std.proofs.lemmas.List.Elements.{filter-append}
use Rattle.std.proofs.lemmas.Grind.{flat_map-append}
use Rattle.std.proofs.lemmas.Bool.Decides.{nat_tests}
use Rattle.openings.specs.Hex.{is_blank, digit_of, digits, halves, Spells}

-- a digit that waits for another
abbrev pub waiting : Option ℕ → List ℕ
waiting None = []
waiting (Some d) = d ∷ []

-- the characters so far are two digits for each of these bytes, and the one that waits
abbrev pub Reads : List ℕ → List ℕ → Option ℕ → Type 0
Reads t b h = digits t ≡ map Some (halves b ++ waiting h)

digits-append : (xs ys : List ℕ) → digits (xs ++ ys) ≡ digits xs ++ digits ys
digits-append xs ys = ap (map digit_of) (filter-append (λ c. not (is_blank c)) xs ys) ∙ map-append digit_of (filter (λ c. not (is_blank c)) xs) (filter (λ c. not (is_blank c)) ys)

digits_solid : (c : ℕ) → is_blank c ≡ false → digits (c ∷ []) ≡ digit_of c ∷ []
digits_solid c e = ap (λ b. map digit_of (cond (not b) (c ∷ []) [])) e

pub solid : (c : ℕ) → (c ≡ 32 → ⊥) → (c ≡ 10 → ⊥) → (c ≡ 13 → ⊥) → is_blank c ≡ false
solid c a b d = grind (arith, nat_tests)

halves-append : (b : List ℕ) (x : ℕ) → halves (b ++ x ∷ []) ≡ halves b ++ (x / 16 ∷ x % 16 ∷ [])
halves-append b x = flat_map-append (λ b. b / 16 ∷ b % 16 ∷ []) b (x ∷ [])

length-halves : (b : List ℕ) → length (halves b) ≡ 2 * length b
length-halves [] = refl
length-halves (x ∷ b) = omega (arith, length-halves b)

-- one character more
module _ (line : List ℕ) (i : ℕ) (lt : i < length line) where
  abbrev here : ℕ
  here = get_or line i 0

  one_more : digits (take (i + 1) line) ≡ digits (take i line) ++ digits (here ∷ [])
  one_more = ap digits (take_more line i 0 lt) ∙ digits-append (take i line) (here ∷ [])

  pub waits : (b : List ℕ) (d : ℕ) → is_blank here ≡ false → digit_of here ≡ Some d → Reads (take i line) b None → Reads (take (i + 1) line) b (Some d)
  waits b d solid is was =
      one_more
      ∙ (λ j. was j ++ digits_solid here solid j)
      ∙ ap (λ o. map Some (halves b ++ []) ++ o ∷ []) is
      ∙ ap (λ l. map Some l ++ Some d ∷ []) (append-nil (halves b))
      ∙ sym (map-append Some (halves b) (d ∷ []))

  pub completes : (b : List ℕ) (h d x : ℕ) → is_blank here ≡ false → digit_of here ≡ Some d → h < 16 → d < 16 → x ≡ h * 16 + d
      → Reads (take i line) b (Some h) → Reads (take (i + 1) line) (b ++ x ∷ []) None
  completes b h d x solid is low_h low_d e was =
      let high : h ≡ x / 16 = omega arith in
      let low : d ≡ x % 16 = omega arith in
      one_more
      ∙ (λ j. was j ++ digits_solid here solid j)
      ∙ ap (λ o. map Some (halves b ++ h ∷ []) ++ o ∷ []) is
      ∙ sym (map-append Some (halves b ++ h ∷ []) (d ∷ []))
      ∙ ap (map Some) (append_assoc (halves b) (h ∷ []) (d ∷ []) ∙ (λ j. halves b ++ (high j ∷ low j ∷ [])) ∙ sym (halves-append b x) ∙ sym (append-nil (halves (b ++ x ∷ []))))

  -- a character that is no digit
  no_digit : (xs ys : List (Option ℕ)) (zs : List ℕ) → xs ++ (None ∷ ys) ≡ map Some zs → ⊥
  no_digit [] ys [] e = cc
  no_digit [] ys (z ∷ zs) e = cc
  no_digit (x ∷ xs) ys [] e = cc
  no_digit (x ∷ xs) ys (z ∷ zs) e = no_digit xs ys zs (cc)

  pub stops : is_blank here ≡ false → digit_of here ≡ None → (b : List ℕ) → Spells line b → ⊥
  stops solid is b spells =
      no_digit (digits (take i line)) (digits (drop (i + 1) line)) (halves b)
      (sym (append_assoc (digits (take i line)) (None ∷ []) (digits (drop (i + 1) line)))
      ∙ ap (λ l. l ++ digits (drop (i + 1) line)) (sym (one_more ∙ ap (λ l. digits (take i line) ++ l) (digits_solid here solid ∙ ap (λ o. o ∷ []) is)))
      ∙ sym (digits-append (take (i + 1) line) (drop (i + 1) line))
      ∙ ap digits (take-append-drop (i + 1) line)
      ∙ spells)

-- at the end
pub ends_whole : (line b : List ℕ) → Reads line b None → Spells line b
ends_whole line b r = r ∙ ap (map Some) (append-nil (halves b))

pub ends_odd : (line b : List ℕ) (h : Option ℕ) → is_some h ≡ true → Reads line b h → (b' : List ℕ) → Spells line b' → ⊥
ends_odd line b None e r b' s = cc
ends_odd line b (Some d) e r b' s =
    let e : length (map Some (halves b ++ d ∷ [])) ≡ length (map Some (halves b')) = ap length (sym r ∙ s) in
    omega (arith, e, length-map (halves b ++ d ∷ []) Some, length-map (halves b') Some, length-append (halves b) (d ∷ []), length-halves b, length-halves b')
