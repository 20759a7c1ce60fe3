-- The law from a newly opened table on.
use Rattle.std.proofs.Common.{◌≡◌, ℕ, ◌*◌, ◌≤◌, List, length, refl, subst}
use Rattle.paths.specs.Memory.{Rec}
use Rattle.paths.specs.Tabled.{newly_in}
use Rattle.paths.specs.Does.{Handed}
use Rattle.paths.specs.Law.{LawFrom, Sound}
use Rattle.paths.proofs.Lawly.{the_law}
use Rattle.paths.proofs.opens.Goals as goal

from : (n f : ℕ) (H : Handed) → Sound H → H.points ≡ n → H.facts ≡ f → (memory : List Rec) → n * f * f ≤ length memory
    → LawFrom H (newly_in n f memory)
from n f H sound en ef =
    subst (λ (x : ℕ). (memory : List Rec) → x * f * f ≤ length memory → LawFrom H (newly_in x f memory)) en
    (subst (λ (y : ℕ). (memory : List Rec) → H.points * y * y ≤ length memory → LawFrom H (newly_in H.points y memory)) ef
    (λ memory room. the_law H sound (newly_in H.points H.facts memory) (record { memory = memory; room = room; cleared = refl })))

pub returns : goal.returns
returns c = from c.args.points c.args.facts
