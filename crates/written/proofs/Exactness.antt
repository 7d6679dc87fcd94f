-- Both directions together.
use Rattle.std.proofs.Common.{◌≡◌, Ok, sym, ap, ◌∙◌}
use Rattle.description.specs.Reader.{opened}
use Rattle.written.specs.Law.{OpeningIsExact, WrittenFormTells}
use Rattle.written.proofs.Accepted.{accepted_is_written}
use Rattle.written.proofs.Completes.{written_is_accepted}

pub opening_is_exact : OpeningIsExact
opening_is_exact r input bytes d = (accepted_is_written r input bytes d, λ w e. ap (opened r) e ∙ written_is_accepted r d w)

pub written_form_tells : WrittenFormTells
written_form_tells r d e v w h =
    let same : Ok d ≡ Ok e = sym (written_is_accepted r d v) ∙ ap (opened r) h ∙ written_is_accepted r e w in
    cc
