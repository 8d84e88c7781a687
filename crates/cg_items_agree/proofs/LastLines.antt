-- The last line of a replica that is up shows what it holds.
use Rattle.std.proofs.Common.{◌≡◌, ℕ, zero, suc, ◌<◌, Bool, List, [], ◌∷◌, find, length, Option, Some, None, IfSome, Contains, option_map, option_and_then, refl, sym, ap, ◌∙◌, subst, inl, inr, arith}
use Rattle.std.specs.Prelude.{◌==◌}
use Rattle.std.specs.Option.{option_map_or}
use Rattle.std.proofs.lemmas.Bool.{cases_Bool, cond-true, cond-false}
use Rattle.std.proofs.lemmas.List.Elements.{Contains-append_right}
use Rattle.cg_group.specs.State.{phase_of}
use Rattle.cg_client.specs.Queries.{view_of}
use Rattle.cg_client.specs.Replica.{Replica}
use Rattle.cg_report.specs.declared.line.UpLine.{UpLine}
use Rattle.cg_model.specs.World.{NodeState, Up, Down, Node, node_of, replica_of, running}
use Rattle.cg_model.specs.Show.{line_of, up_line}
use Rattle.cg_model.specs.Run.{Step}
use Rattle.cg_model.specs.Shown.{last_up, lines_in}
use Rattle.cg_model.specs.Chronicle.{Chronicle}
use Rattle.cg_model.specs.Telling.{Tells, last_line, printed}
use Rattle.cg_agree_lemmas.specs.NodeFacts.{node-id}
use Rattle.cg_model.specs.ShowLaws.{IsLastUp, last-up}

found-contains : {X : Type 0} (t : X → Bool) (xs : List X) (x : X) → find t xs ≡ Some x → Contains xs x
found-contains t [] x e = absurd (let clash : None ≡ Some x = e in cc)
found-contains t (y ∷ xs) x e = elim (cases_Bool (t y)) [
  | inl here ↦
      let is : Some y ≡ Some x = sym (cond-true (t y) (Some y) (find t xs) here) ∙ e in
      (zero, (let less : 0 < suc (length xs) = omega arith in less), ap (λ o. option_map_or (λ z. z) o y) is)
  | inr other ↦ Contains-append_right (y ∷ []) xs x (found-contains t xs x (sym (cond-false (t y) (Some y) (find t xs) other) ∙ e))
]

pub record IsLastLine (steps : List Step) (p : ℕ) (r : Replica) : Type 0 where
  pub up : UpLine
  pub last : last_up p steps ≡ Some up
  pub view : up.view ≡ view_of r.held

pub last-line : (steps : List Step) (c : Chronicle) → Tells steps c → (p : ℕ) (r : Replica) →
    replica_of c.world p ≡ Some r → IsLastLine steps p r
last-line steps c tells p r runs = at (node_of c.world p) refl runs where
  there : (s : Node) → node_of c.world p ≡ Some s → (l : NodeState) → s.life ≡ l → running l ≡ Some r →
      IsLastLine steps p r
  there s found (Down disk green) life is = absurd (let clash : None ≡ Some r = is in cc)
  there s found (Up x disk) life is =
      let same : x ≡ r = ap (λ o. option_map_or (λ y. y) o x) is in
      let id : s.id ≡ p = node-id c.world p s found in
      let line : printed c.world p ≡ Some (line_of c.world.group s) =
      subst (λ n. printed c.world n ≡ Some (line_of c.world.group s)) id (tells.stands s (found-contains (λ (s : Node). s.id == p) c.world.nodes s found)) in
      let last : last_line p steps ≡ Some (line_of c.world.group s) = sym (tells.shown p) ∙ line in
      let is_up : IsLastUp (last_line p steps) (last_up p steps) = last-up p (lines_in steps) None None tt in
      let here : IfSome (option_map (up_line (phase_of c.world.group s.id)) (running s.life)) (λ u. last_up p steps ≡ Some u) = subst (λ o. IsLastUp o (last_up p steps)) last is_up in
      let up : last_up p steps ≡ Some (up_line (phase_of c.world.group s.id) x) =
      subst (λ (l : NodeState). IfSome (option_map (up_line (phase_of c.world.group s.id)) (running l)) (λ u. last_up p steps ≡ Some u)) life here in
      record { up = up_line (phase_of c.world.group s.id) x; last = up; view = ap (λ (y : Replica). view_of y.held) same }

  at : (o : Option Node) → node_of c.world p ≡ o → option_and_then (λ s. running s.life) o ≡ Some r →
      IsLastLine steps p r
  at None found is = absurd (let clash : None ≡ Some r = is in cc)
  at (Some s) found is = there s found s.life refl is
