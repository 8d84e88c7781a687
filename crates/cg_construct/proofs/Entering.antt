-- An exchange is entered in the same way from every state.
use Rattle.std.specs.Prelude.{◌≡◌, ℕ, List, [], ◌∷◌, fold}
use Rattle.std.proofs.Common.{refl, ap, ◌∙◌}
use Rattle.cg_action.specs.declared.action.Action.{Action}
use Rattle.cg_queue.specs.Queue.{Marking, Marks, Gaps, marked_red}
use Rattle.cg_queue.specs.declared.mark.Mark.TheVariants.{Placed, Known}
use Rattle.cg_client.specs.declared.parts.DraftParts.{DraftParts}
use Rattle.cg_client.specs.Drafts.{turn_with}
use Rattle.cg_client.specs.Marks.{marked}
use Rattle.cg_client.specs.Replica.{Held, State}
use Rattle.cg_client.specs.Summary.{redden, forget_own, own_to_red, tell, enter_exchange}
use Rattle.cg_client.specs.Turn.{Turn, go_to}

marked-go_to : (t : Turn) (s : State) (a : Action) (m : Marking) → marked (go_to t s) a m ≡ go_to (marked t a m) s
marked-go_to t s a (Marks Placed q) = refl
marked-go_to t s a (Marks Known q) = refl
marked-go_to t s a (Gaps cut) = refl

redden-go_to : (t : Turn) (s : State) (own : List Action) → fold redden (go_to t s) own ≡ go_to (fold redden t own) s
redden-go_to t s [] = refl
redden-go_to t s (a ∷ own) =
    ap (λ (u : Turn). fold redden u own) (marked-go_to t s a (marked_red t.replica.held.queue a)) ∙ redden-go_to (redden t a) s own

pub from_any_state : (h : Held) (s other : State) (d : DraftParts) (conf : ℕ) (set : List ℕ)
    → enter_exchange (turn_with h other d) conf set ≡ enter_exchange (turn_with h s d) conf set
unfolding own_to_red enter_exchange
from_any_state h s other d conf set =
    ap (λ (u : Turn). tell u conf set) (redden-go_to (forget_own (turn_with h s d)) other h.own)
