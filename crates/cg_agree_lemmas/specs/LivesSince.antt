-- Whether an action's creator lives since it created it, step by step; and which step shows a replica as down.
use Rattle.std.proofs.Common.{◌≡◌, ℕ, suc, ◌≤◌, Bool, true, false, cond, not, ◌&&◌, ◌||◌, is_some, List, [], ◌∷◌, ◌++◌, map, filter, fold, find, Option, Some, None, IfSome, refl, sym, ap, ap₂, ◌∙◌, subst, inl, inr, option_and_then, option_map, arith, eq-eqb}
use Rattle.std.specs.Prelude.{◌==◌}
use Rattle.std.specs.List.{list_any}
use Rattle.std.specs.Option.{option_map_or}
use Rattle.std.proofs.lemmas.Bool.{cases_eq, cases_Bool, cond-true, cond-false, ne_eqb}
use Rattle.cg_base.specs.declared.action_id.ActionId.{ActionId}
use Rattle.cg_wire.specs.declared.message.Msg.{Msg}
use Rattle.cg_group.specs.State.{GroupState, phase_of}
use Rattle.cg_report.specs.declared.line.Line.{Line}
use Rattle.cg_report.specs.declared.line.UpLine.{UpLine}
use Rattle.cg_client.specs.Replica.{Replica}
use Rattle.cg_schedule.specs.declared.event.Event.{Event}
use Rattle.cg_model.specs.World.{Node, World, running, replica_of}
use Rattle.cg_model.specs.Show.{line_of, up_line, is_news, ended}
use Rattle.cg_model.specs.Step.{happens, world_step}
use Rattle.cg_model.specs.Run.{Step}
use Rattle.cg_model.specs.Agreement.{is_down_in, is_created_in, lives_since}
use Rattle.cg_model.specs.FactsLists.{IsRising}
use Rattle.cg_model.specs.Telling.{latest}

-- ---- lives since

any-next : {X : Type 0} (t : X → Bool) (xs : List X) (x : X) → list_any t (xs ++ x ∷ []) ≡ (list_any t xs || t x)
any-next t [] x = at (t x) where
  at : (b : Bool) → (b || false) ≡ b
  at true = refl
  at false = refl
any-next t (y ∷ xs) x = ap (λ b. t y || b) (any-next t xs x) ∙ assoc (t y) (list_any t xs) (t x) where
  assoc : (a b c : Bool) → (a || (b || c)) ≡ ((a || b) || c)
  assoc true b c = refl
  assoc false b c = refl

-- one step more: the creator isn't down in it, and lived before; or the action is created in it
pub lives-next : (id : ActionId) (steps : List Step) (s : Step) →
    lives_since id (steps ++ s ∷ []) ≡ ((lives_since id steps && not (is_down_in id.creator s)) || is_created_in id s)
lives-next id [] s = at (is_created_in id s) (is_down_in id.creator s) where
  at : (c d : Bool) → ((c && true) || false) ≡ ((false && not d) || c)
  at true d = refl
  at false d = refl
lives-next id (x ∷ steps) s =
    ap₂ (λ a b. (is_created_in id x && not a) || b) (any-next (is_down_in id.creator) steps s) (lives-next id steps s)
    ∙ at (is_created_in id x) (list_any (is_down_in id.creator) steps) (is_down_in id.creator s) (lives_since id steps) (is_created_in id s) where
      at : (x a d l c : Bool) → ((x && not (a || d)) || ((l && not d) || c)) ≡ ((((x && not a) || l) && not d) || c)
      at true true true true c = refl
      at true true true false c = refl
      at true true false true c = refl
      at true true false false c = refl
      at true false true true c = refl
      at true false true false c = refl
      at true false false l c = refl
      at false a true true c = refl
      at false a true false c = refl
      at false a false true c = refl
      at false a false false c = refl

-- ---- lines

-- the line is that of the replica, down
abbrev pub is_down_line : ℕ → Line → Bool
is_down_line p l = (l.id == p) && option_map_or (λ up. false) l.up true

kept-line : (p : ℕ) (t : Line → Bool) (l : Line) (lines : List Line) → is_down_line p l ≡ false → list_any (is_down_line p) (filter t lines) ≡ false → list_any (is_down_line p) (filter t (l ∷ lines)) ≡ false
kept-line p t l lines one rest = at (t l) where
  at : (b : Bool) → list_any (is_down_line p) (cond b (l ∷ filter t lines) (filter t lines)) ≡ false
  at true = ap₂ (λ a b. a || b) one rest
  at false = rest

none-of : (p : ℕ) (g : GroupState Msg) (t : Line → Bool) (nodes : List Node) (low : ℕ) → IsRising low (map (λ s. s.id) nodes) → suc p ≤ low → list_any (is_down_line p) (filter t (map (line_of g) nodes)) ≡ false
none-of p g t [] low rise above = refl
none-of p g t (s ∷ nodes) low rise above =
    let first = rise.0 in
    let other : is_down_line p (line_of g s) ≡ false = ap (λ b. b && option_map_or (λ (up : UpLine). false) (line_of g s).up true) (ne_eqb s.id p (λ e. (let same : s.id ≡ p = e in omega arith))) in
    let rest = none-of p g t nodes (suc s.id) rise.1 (omega arith) in
    kept-line p t (line_of g s) (map (line_of g) nodes) other rest

-- who is up behind a step isn't shown as down in it
up-lines : (p : ℕ) (g : GroupState Msg) (t : Line → Bool) (nodes : List Node) (low : ℕ) → IsRising low (map (λ s. s.id) nodes) → (r : Replica) →
    option_and_then (λ s. running s.life) (find (λ s. s.id == p) nodes) ≡ Some r → list_any (is_down_line p) (filter t (map (line_of g) nodes)) ≡ false
up-lines p g t [] low rise r runs = refl
up-lines p g t (s ∷ nodes) low rise r runs = elim (cases_eq s.id p) [
  | inl here ↦
      let life : running s.life ≡ Some r = ap (λ (o : Option Node). option_and_then (λ s. running s.life) o) (sym (cond-true (s.id == p) (Some s) (find (λ s. s.id == p) nodes) (eq-eqb s.id p here))) ∙ runs in
      let up : is_down_line p (line_of g s) ≡ false =
      ap₂ (λ b (o : Option UpLine). b && option_map_or (λ up. false) o true) (eq-eqb s.id p here) (ap (option_map (up_line (phase_of g s.id))) life) in
      kept-line p t (line_of g s) (map (line_of g) nodes) up (none-of p g t nodes (suc s.id) rise.1 (omega arith))
  | inr apart ↦
      let later = ap (λ (o : Option Node). option_and_then (λ s. running s.life) o) (sym (cond-false (s.id == p) (Some s) (find (λ s. s.id == p) nodes) (ne_eqb s.id p apart))) ∙ runs in
      kept-line p t (line_of g s) (map (line_of g) nodes) (ap (λ b. b && option_map_or (λ (up : UpLine). false) (line_of g s).up true) (ne_eqb s.id p apart))
      (up-lines p g t nodes (suc s.id) rise.1 r later)
]

pub not-down : (w : World) (e : Event) (p : ℕ) (r : Replica) → IsRising 0 (map (λ s. s.id) (world_step w e).world.nodes) → replica_of (world_step w e).world p ≡ Some r →
    list_any (is_down_line p) (world_step w e).entry.lines ≡ false
unfolding world_step ended
not-down w e p r rise runs = (let x = (happens w e).world in up-lines p x.group (is_news x.lines) x.nodes 0 rise r runs)

-- a line that is down behind lines, where it was up before them, is among them
pub goes-down : (p : ℕ) (lines : List Line) (old : Option Line) → IfSome old (λ l. is_some l.up ≡ true) → IfSome (fold (latest p) old lines) (λ l. is_some l.up ≡ false) → is_some old ≡ true →
    list_any (is_down_line p) lines ≡ true
goes-down p [] None up down some = absurd (let clash : false ≡ true = some in cc)
goes-down p [] (Some l) up down some = absurd (let clash : true ≡ false = sym up ∙ down in cc)
goes-down p (x ∷ lines) old up down some = elim (cases_eq x.id p) [
  | inr apart ↦
      let stays : latest p old x ≡ old = cond-false (x.id == p) (Some x) old (ne_eqb x.id p apart) in
      or-later (is_down_line p x) (list_any (is_down_line p) lines)
      (goes-down p lines old up (subst (λ (o : Option Line). IfSome (fold (latest p) o lines) (λ l. is_some l.up ≡ false)) stays down) some)
  | inl here ↦
      let now : latest p old x ≡ Some x = cond-true (x.id == p) (Some x) old (eq-eqb x.id p here) in
      let next = subst (λ (o : Option Line). IfSome (fold (latest p) o lines) (λ l. is_some l.up ≡ false)) now down in
      elim (cases_Bool (is_some x.up)) [
        | inl up_now ↦ or-later (is_down_line p x) (list_any (is_down_line p) lines) (goes-down p lines (Some x) up_now next refl)
        | inr gone ↦ ap (λ b. b || list_any (is_down_line p) lines) (ap₂ (λ b c. b && c) (eq-eqb x.id p here) (down-of x.up gone))
      ]
] where
  or-later : (a b : Bool) → b ≡ true → (a || b) ≡ true
  or-later true b e = refl
  or-later false b e = e

  down-of : (o : Option UpLine) → is_some o ≡ false → option_map_or (λ (up : UpLine). false) o true ≡ true
  down-of None e = refl
  down-of (Some up) e = absurd (let clash : true ≡ false = e in cc)
