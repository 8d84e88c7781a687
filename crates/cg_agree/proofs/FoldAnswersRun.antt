-- Every answer that a run gives is that of a prefix of its order.
use Rattle.std.proofs.Common.{◌≡◌, zero, suc, List, [], ◌∷◌, ◌++◌, Contains, ap, arith}
use Rattle.cg_model.specs.World.{no_world}
use Rattle.cg_model.specs.Run.{Step, IsRunFrom}
use Rattle.cg_model.specs.Agreement.{FoldAnswers}
use Rattle.cg_model.specs.Played.{AlwaysHolds}
use Rattle.cg_agree.proofs.RunSteps.{step-of}
use Rattle.cg_agree.proofs.DownAgrees.{down-fold}
use Rattle.cg_agree.proofs.FoldHeld.{fold-held, kept-held}
use Rattle.cg_agree.proofs.FoldShown.{fold-database, fold-weak}
use Rattle.cg_agree.proofs.FoldReplies.{fold-reply, fold-when, fold-once}

-- where an element stands in a list
split-at : (xs : List Step) (x : Step) → Contains xs x → (before after : List Step) × (xs ≡ before ++ x ∷ after)
split-at [] x there = absurd (let less = there.1 in omega arith)
split-at (y ∷ xs) x (zero, less, same) = ([], xs, ap (λ z. z ∷ xs) same)
split-at (y ∷ xs) x (suc k, less, same) = (let rest = split-at xs x (k, omega arith, same) in (y ∷ rest.0, rest.1, ap (λ zs. y ∷ zs) rest.2))

pub fold-answers : AlwaysHolds → (steps : List Step) → IsRunFrom no_world steps → FoldAnswers steps
fold-answers always steps run = record {
  database = λ earlier s p entries after there. fold-database always steps run earlier s after p entries there;
  held = λ earlier s p r after runs. fold-held always steps run earlier s p r after runs;
  kept = λ earlier s p r after runs. kept-held always steps run earlier s p r after runs;
  down = down-fold always steps run;
  weak = λ earlier s p q after event. fold-weak always steps run earlier s after p q event;
  reply = λ earlier s r after there. fold-reply always earlier s (step-of always steps run earlier s after) r there;
  when = λ earlier s before behind id after placed. fold-when always earlier s (step-of always steps run earlier s after) before behind id placed;
  once = λ s before between after r again there list same. (let at = split-at steps s there in
      fold-once always at.0 s (step-of always steps run at.0 s (at.1, at.2)) before between after r again list same);
}
