-- Applications that are all active.
use Rattle.std.proofs.Common.{◌≡◌, ℕ, ◌<◌, true, List, refl}
use Rattle.std.specs.Bool.{Decides}
use Rattle.std.proofs.lemmas.Bool.Decides.{Decides-below_and}
use Rattle.records.specs.declared.activity.Activity.{Activity}
use Rattle.description.specs.Limits.{has_activity, all_active}

-- all of them are active exactly where each of them is
pub all_active-each : (n : ℕ) (ts : List Activity) → Decides (all_active n ts) ((i : ℕ) → i < n → has_activity i ts ≡ true)
all_active-each n ts =
    Decides-below_and (λ i. has_activity i ts) (λ i. has_activity i ts ≡ true) (λ n. all_active n ts) (λ i. (λ e. e, λ e. e)) refl (λ n. refl) n
