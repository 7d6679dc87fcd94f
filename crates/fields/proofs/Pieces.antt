-- Numbers of one, two and four bytes as pieces of a list of bytes, and back.
use Rattle.std.proofs.Common.{◌≡◌, ℕ, ◌+◌, ◌*◌, ◌/◌, ◌%◌, ◌^◌, ◌<◌, List, [], ◌∷◌, ◌++◌, length, get_or, drop, refl, sym, ap, ◌∙◌, add-one, arith, drop-cons}
use Rattle.std.specs.List.{AllByRecursion}
use Rattle.std.proofs.ByRecursion.{All-get_or}
use Rattle.std.proofs.lemmas.List.{drop_all}
use Rattle.fields.specs.Bytes.{two_at, four_at, two_of, four_of}

-- the bytes of a number make it again
pub four_back : (n : ℕ) → n < 2 ^ 32 → n / 16777216 % 256 * 16777216 + n / 65536 % 256 * 65536 + n / 256 % 256 * 256 + n % 256 ≡ n
four_back n h = grind arith

-- and bytes are those of the number that they make
two_again : (a b : ℕ) → a < 256 → b < 256 → two_of (a * 256 + b) ≡ a ∷ b ∷ []
two_again a b ha hb =
    let x : (a * 256 + b) / 256 % 256 ≡ a = omega arith in
    let y : (a * 256 + b) % 256 ≡ b = omega arith in
    λ i. x i ∷ y i ∷ []

four_again : (a b c d : ℕ) → a < 256 → b < 256 → c < 256 → d < 256 → four_of (a * 16777216 + b * 65536 + c * 256 + d) ≡ a ∷ b ∷ c ∷ d ∷ []
four_again a b c d ha hb hc hd =
    let n : ℕ = a * 16777216 + b * 65536 + c * 256 + d in
    let w : (a * 16777216 + b * 65536 + c * 256 + d) / 16777216 % 256 ≡ a = omega arith in
    let x : (a * 16777216 + b * 65536 + c * 256 + d) / 65536 % 256 ≡ b = omega arith in
    let y : (a * 16777216 + b * 65536 + c * 256 + d) / 256 % 256 ≡ c = omega arith in
    let z : (a * 16777216 + b * 65536 + c * 256 + d) % 256 ≡ d = omega arith in
    λ i. w i ∷ x i ∷ y i ∷ z i ∷ []

pub one_piece : (xs : List ℕ) (i : ℕ) → i < length xs → get_or xs i 0 ∷ drop (i + 1) xs ≡ drop i xs
one_piece xs i lt = ap (λ j. get_or xs i 0 ∷ drop j xs) (add-one i) ∙ sym (drop-cons xs i 0 lt)

module _ (xs : List ℕ) (bytes : AllByRecursion (λ b. b < 256) xs) where
  byte : (i : ℕ) → i < length xs → get_or xs i 0 < 256
  byte i lt = All-get_or (λ b. b < 256) xs i 0 lt bytes

  pub two_piece : (i : ℕ) → i + 1 < length xs → two_of (two_at xs i) ++ drop (i + 2) xs ≡ drop i xs
  two_piece i lt =
      let e2 : i + 2 ≡ i + 1 + 1 = omega arith in
      cc (two_again (get_or xs i 0) (get_or xs (i + 1) 0) (byte i (omega arith)) (byte (i + 1) lt), one_piece xs i (omega arith), one_piece xs (i + 1) lt)

  pub four_piece : (i : ℕ) → i + 3 < length xs → four_of (four_at xs i) ++ drop (i + 4) xs ≡ drop i xs
  four_piece i lt =
      let e2 : i + 2 ≡ i + 1 + 1 = omega arith in
      let e3 : i + 3 ≡ i + 2 + 1 = omega arith in
      let e4 : i + 4 ≡ i + 3 + 1 = omega arith in
      let bytes = four_again (get_or xs i 0) (get_or xs (i + 1) 0) (get_or xs (i + 2) 0) (get_or xs (i + 3) 0) (byte i (omega arith)) (byte (i + 1) (omega arith)) (byte (i + 2) (omega arith)) (byte (i + 3) lt) in
      cc (bytes, one_piece xs i (omega arith), one_piece xs (i + 1) (omega arith), one_piece xs (i + 2) (omega arith), one_piece xs (i + 3) lt)

  -- the last number of a body
  pub two_last : (i : ℕ) → i + 2 ≡ length xs → two_of (two_at xs i) ≡ drop i xs
  two_last i e = rw (← two_piece i (omega arith), drop_all (i + 2) xs (omega arith)) refl

  pub four_last : (i : ℕ) → i + 4 ≡ length xs → four_of (four_at xs i) ≡ drop i xs
  four_last i e = rw (← four_piece i (omega arith), drop_all (i + 4) xs (omega arith)) refl
