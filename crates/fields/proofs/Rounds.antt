-- What is written is read back.
use Rattle.std.proofs.Common.{◌≡◌, ℕ, ◌+◌, ◌-◌, ◌*◌, ◌/◌, ◌%◌, ◌<◌, ◌≤◌, List, [], ◌++◌, length, get_or, take, drop, Ok, sym, refl, ap, ◌∙◌, subst, append-nil, arith, length-append, length-take}
use borrow.Rule.Slice.PartMut.{put_mid}
use Rattle.std.proofs.lemmas.List.{get_or-append-add, take_at, drop_at, drop_all, drop-drop}
use Rattle.std.proofs.lemmas.Bool.{le-ltb, eq-eqb, cond-true, cond-false}
use Rattle.fields.specs.Bytes.{two_at}
use Rattle.fields.specs.Fields.{reading, field_of, placed}

-- a field written in its own part of the output, the body after the head
pub put_field : (out head rest body : List ℕ) (at n k : ℕ) → length head ≡ n → length (head ++ body) ≡ k
    → put_mid at k out (put_mid n (length (head ++ rest) - n) (head ++ rest) body) ≡ placed out at (head ++ body)
put_field out head rest body at n k a e =
    let m : ℕ = length (head ++ rest) - n in
    let b : length rest ≤ m = omega (arith, length-append head rest) in
    let front : take n (head ++ rest) ≡ head = take_at head rest n a in
    let back : drop m (drop n (head ++ rest)) ≡ [] = ap (drop m) (drop_at head rest n a) ∙ drop_all m rest b in
    let inner : put_mid n m (head ++ rest) body ≡ head ++ body = (λ i. front i ++ (body ++ back i)) ∙ ap (λ l. head ++ l) (append-nil body) in
    let outer : drop k (drop at out) ≡ drop (at + length (head ++ body)) out = drop-drop k at out ∙ ap (λ j. drop (at + j) out) (sym e) in
    λ i. take at out ++ (inner i ++ outer i)

pub round_at : {R : Type 0} (tag len : ℕ) (parse : List ℕ → R) (p bytes rest : List ℕ)
    → length bytes ≡ len → len < 65536
    → reading tag len parse (p ++ (field_of tag len bytes ++ rest)) (length p) ≡ Ok (parse bytes)
round_at tag len parse p bytes rest e f =
    let body = field_of tag len bytes ++ rest in
    let input = p ++ body in
    let long = length-append p body in
    let inner = length-append bytes rest in
    let at_tag : get_or input (length p) 0 ≡ tag = ap (λ n. get_or input n 0) (omega arith) ∙ get_or-append-add p body 0 0 in
    let at_high : get_or input (length p + 1) 0 ≡ len / 256 % 256 = get_or-append-add p body 1 0 in
    let at_low : get_or input (length p + 1 + 1) 0 ≡ len % 256 = ap (λ n. get_or input n 0) (omega arith) ∙ get_or-append-add p body 2 0 in
    let count : two_at input (length p + 1) ≡ len = (λ i. at_high i * 256 + at_low i) ∙ omega arith in
    let part : take (length p + 3 + len - (length p + 3)) (drop (length p + 3) input) ≡ bytes =
    (λ i. take (omega_len i) (skipped i)) ∙ take_at bytes rest len e in
    cond-false _ _ _ (le-ltb (length input) (length p + 3) (omega arith))
    ∙ cond-true _ _ _ (eq-eqb _ _ at_tag)
    ∙ cond-true _ _ _ (eq-eqb _ _ count)
    ∙ cond-false _ _ _ (le-ltb (length input) (length p + 3 + len) (omega arith))
    ∙ ap (λ l. Ok (parse l)) part
  where
    omega_len : length p + 3 + len - (length p + 3) ≡ len
    omega_len = omega arith

    skipped : drop (length p + 3) (p ++ (field_of tag len bytes ++ rest)) ≡ bytes ++ rest
    skipped = sym (drop-drop 3 (length p) (p ++ (field_of tag len bytes ++ rest))) ∙ ap (drop 3) (drop_at p (field_of tag len bytes ++ rest) (length p) refl)

pub round : {R : Type 0} (tag len : ℕ) (parse : List ℕ → R) (out bytes : List ℕ) (at : ℕ)
    → length bytes ≡ len → len < 65536 → at ≤ length out
    → reading tag len parse (placed out at (field_of tag len bytes)) at ≡ Ok (parse bytes)
round tag len parse out bytes at e f h =
    subst (λ n. reading tag len parse (placed out at (field_of tag len bytes)) n ≡ Ok (parse bytes)) (omega (arith, length-take at out)) (round_at tag len parse (take at out) bytes (drop (at + length (field_of tag len bytes)) out) e f)
