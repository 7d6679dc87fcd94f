use Rattle.std.specs.Prelude.{◌≡◌, ℕ, Bool, true, false, cond, refl}
use Rattle.std.proofs.Common.{arith}
use Rattle.queue_tests.specs.declared.records.Event.{Event}
use Rattle.queue_tests.specs.Records.{event_keys}

pub same_flag : (a b : Bool) → ◌≡◌ {A = ℕ} (cond a 1 0) (cond b 1 0) → a ≡ b
same_flag true true e = refl
same_flag true false e = absurd (omega arith)
same_flag false true e = absurd (omega arith)
same_flag false false e = refl

pub apart : (x y : Event) → event_keys x ≡ event_keys y → x ≡ y
apart x y e =
    let a : x.time ≡ y.time = cc in
    let f : ◌≡◌ {A = ℕ} (cond x.starts 1 0) (cond y.starts 1 0) = cc in
    let b : x.activity ≡ y.activity = cc in
    let c : x.turn ≡ y.turn = cc in
    λ i. record { time = a i; starts = same_flag x.starts y.starts f i; activity = b i; turn = c i }
