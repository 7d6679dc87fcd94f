-- One point more.
use Rattle.std.proofs.Common.{◌≡◌, ℕ, ◌+◌, ◌-◌, ◌<◌, ◌&&◌, ltb, List, [], ◌∷◌, ◌++◌, length, get_or, take, sym, refl, ap, ◌∙◌, arith}
use Rattle.std.proofs.Math.Bool.{and-true, and_assoc}
use Rattle.std.proofs.Math.Seq.{take-length}
use Rattle.std.proofs.lemmas.List.{take_more}
use Rattle.records.specs.declared.point.Point.{Point}
use Rattle.records.specs.Points.{point_right}
use Rattle.costs.specs.Costs.{last_from, last_latency, right_from, points_right, may_follow}

pub last_from-push : (low : ℕ) (xs : List Point) (x : Point) → last_from low (xs ++ x ∷ []) ≡ x.latency
last_from-push low [] x = refl
last_from-push low (y ∷ xs) x = last_from-push y.latency xs x

-- points stay right with one more exactly when it may follow them
pub right_from-push : (low : ℕ) (xs : List Point) (x : Point) → right_from low (xs ++ x ∷ []) ≡ right_from low xs && (point_right x && ltb (last_from low xs) x.latency)
right_from-push low [] x = and-true (point_right x && ltb low x.latency)
right_from-push low (y ∷ xs) x =
    ap (λ b. (point_right y && ltb low y.latency) && b) (right_from-push y.latency xs x)
    ∙ sym (and_assoc (point_right y && ltb low y.latency) (right_from y.latency xs) (point_right x && ltb (last_from y.latency xs) x.latency))

pub points_right-push : (xs : List Point) (x : Point) → points_right (xs ++ x ∷ []) ≡ points_right xs && may_follow xs x
points_right-push xs x = right_from-push 0 xs x

-- the last of some points
pub last_of : (xs : List Point) (d : Point) → 0 < length xs → (get_or xs (length xs - 1) d).latency ≡ last_latency xs
last_of xs d pos =
    let back : length xs - 1 + 1 ≡ length xs = omega arith in
    sym (last_from-push 0 (take (length xs - 1) xs) (get_or xs (length xs - 1) d))
    ∙ ap last_latency (sym (take_more xs (length xs - 1) d (omega arith)))
    ∙ ap (λ k. last_latency (take k xs)) back
    ∙ ap last_latency (take-length xs)
