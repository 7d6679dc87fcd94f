use Rattle.std.specs.Prelude.{◌≡◌}
use Rattle.queue_tests.specs.declared.records.Ready.{Ready}
use Rattle.queue_tests.specs.Records.{ready_keys}

pub apart : (x y : Ready) → ready_keys x ≡ ready_keys y → x ≡ y
apart x y e =
    let a : x.slack ≡ y.slack = cc in
    let b : x.activity ≡ y.activity = cc in
    let c : x.turn ≡ y.turn = cc in
    λ i. record { slack = a i; activity = b i; turn = c i }
