-- Behind each step of a run the last printed line of each replica is the last one that was shown, and is its line as it stands.
use Rattle.std.proofs.Common.{◌≡◌, ℕ, suc, ◌<◌, ◌≤◌, Bool, true, false, cond, List, [], ◌∷◌, map, filter, find, fold, Option, Some, None, IfSome, refl, sym, ap, ◌∙◌, subst, inl, inr, arith, eq-eqb, option_map, option_and_then}
use Rattle.std.specs.Prelude.{◌==◌}
use Rattle.std.specs.Option.{option_map_or}
use Rattle.std.proofs.lemmas.Bool.{cases_eq, cases_Bool, cond-true, cond-false, ne_eqb, not-false}
use Rattle.std.proofs.lemmas.List.Sums.{fold-append}
use Rattle.cg_base.specs.Lists.{Each}
use Rattle.cg_base.specs.EachLaws.{Each-weaker, Each-filter}
use Rattle.cg_wire.specs.declared.message.Msg.{Msg}
use Rattle.cg_group.specs.State.{GroupState, phase_of}
use Rattle.cg_queue.specs.Queue.{green_count}
use Rattle.cg_report.specs.declared.line.Line.{Line}
use Rattle.cg_report.specs.declared.line.UpLine.{UpLine}
use Rattle.cg_report.specs.declared.line.View.{View}
use Rattle.cg_report.specs.contracts.line.LinePartialEq.TheImpl.{ghosts as line}
use Rattle.cg_client.specs.Replica.{Replica}
use Rattle.cg_client.specs.Queries.{view_of}
use Rattle.cg_schedule.specs.declared.event.Event.{Event}
use Rattle.cg_model.specs.World.{NodeState, Up, Down, Node, World, running, node_of, replica_of}
use Rattle.cg_model.specs.Show.{Moved, line_of, up_line, is_news, with_printed, ended}
use Rattle.cg_model.specs.Step.{happens, world_step}
use Rattle.cg_model.specs.Run.{Step}
use Rattle.cg_model.specs.Shown.{lines_in, last_up, position_of, white_of}
use Rattle.cg_model.specs.Chronicle.{Chronicle}
use Rattle.cg_model.specs.Fronts.{IsSomeWith}
use Rattle.cg_model.specs.FactsLists.{IsRising}
use Rattle.cg_model.specs.Agreement.{through}
use Rattle.cg_model.specs.Noting.{chronicle_step}
use Rattle.cg_model.specs.Played.{StandsBeside}
use Rattle.cg_model.specs.Telling.{latest, last_line, printed}
use Rattle.cg_model.specs.Show.{new_lines}
use Rattle.cg_agree.proofs.PrimaryOne.{IsFoundFrom, found-all}
use Rattle.cg_agree.proofs.RunForward.{IsStepOf}
use Rattle.cg_equalities.specs.LineLaws.{one-line}
use Rattle.cg_agree_lemmas.specs.HappensLines.{happens-lines}
use Rattle.cg_agree_lemmas.specs.NodeFacts.{node-id}
use Rattle.cg_model.specs.ShowLaws.{lines-last, IsLastUp, last-up}

-- ---- lines that are printed

abbrev pub line_in : List Line → ℕ → Option Line
line_in lines p = find (λ l. l.id == p) lines

with-printed : (lines : List Line) (new : Line) (p : ℕ) → line_in (with_printed lines new) p ≡ latest p (line_in lines p) new
with-printed [] new p = refl
with-printed (l ∷ lines) new p = elim (cases_eq l.id new.id) [
  | inl same ↦ ap (λ xs. line_in xs p) (cond-true (l.id == new.id) (new ∷ lines) (l ∷ with_printed lines new) (eq-eqb l.id new.id same)) ∙ elim (cases_eq new.id p) [
    | inl here ↦ cond-true (new.id == p) (Some new) (line_in lines p) (eq-eqb new.id p here) ∙ sym (cond-true (new.id == p) (Some new) (line_in (l ∷ lines) p) (eq-eqb new.id p here))
    | inr other ↦ cond-false (new.id == p) (Some new) (line_in lines p) (ne_eqb new.id p other)
        ∙ sym (cond-false (new.id == p) (Some new) (line_in (l ∷ lines) p) (ne_eqb new.id p other) ∙ cond-false (l.id == p) (Some l) (line_in lines p) (ne_eqb l.id p (λ e. other (sym same ∙ e))))
  ]
  | inr apart ↦ ap (λ xs. line_in xs p) (cond-false (l.id == new.id) (new ∷ lines) (l ∷ with_printed lines new) (ne_eqb l.id new.id apart))
      ∙ ap (cond (l.id == p) (Some l)) (with-printed lines new p) ∙ elim (cases_eq new.id p) [
        | inl here ↦ cond-false (l.id == p) (Some l) (latest p (line_in lines p) new) (ne_eqb l.id p (λ e. apart (e ∙ sym here)))
            ∙ cond-true (new.id == p) (Some new) (line_in lines p) (eq-eqb new.id p here) ∙ sym (cond-true (new.id == p) (Some new) (line_in (l ∷ lines) p) (eq-eqb new.id p here))
        | inr other ↦ ap (cond (l.id == p) (Some l)) (cond-false (new.id == p) (Some new) (line_in lines p) (ne_eqb new.id p other))
            ∙ sym (cond-false (new.id == p) (Some new) (line_in (l ∷ lines) p) (ne_eqb new.id p other))
      ]
]

pub printed-fold : (new lines : List Line) (p : ℕ) → line_in (fold with_printed lines new) p ≡ fold (latest p) (line_in lines p) new
printed-fold [] lines p = refl
printed-fold (l ∷ new) lines p = printed-fold new (with_printed lines l) p ∙ ap (λ o. fold (latest p) o new) (with-printed lines l p)

-- ---- a step

step-lines : (w : World) (e : Event) → (world_step w e).world.lines ≡ fold with_printed w.lines (world_step w e).entry.lines
unfolding world_step ended
step-lines w e = ap (λ lines. fold with_printed lines (new_lines (happens w e).world)) (happens-lines w e)

step-printed : (w : World) (s : Step) → (record { entry = s.entry; world = s.world } ≡ world_step w s.event) → (p : ℕ) → printed s.world p ≡ fold (latest p) (printed w p) s.entry.lines
step-printed w s moved p =
    let lines : s.world.lines ≡ fold with_printed w.lines s.entry.lines =
    subst (λ (m : Moved). m.world.lines ≡ fold with_printed w.lines m.entry.lines) (sym moved) (step-lines w s.event) in
    ap (λ xs. line_in xs p) lines ∙ printed-fold s.entry.lines w.lines p

-- ---- nodes with their lines

news-from : (lines : List Line) (l : Line) → is_news lines l ≡ false → line_in lines l.id ≡ Some l
news-from lines l old = at (line_in lines l.id) refl (not-false (option_map_or (line.eq l) (line_in lines l.id) false) old) where
  at : (o : Option Line) → line_in lines l.id ≡ o → option_map_or (line.eq l) o false ≡ true → line_in lines l.id ≡ Some l
  at None e same = absurd (let clash : false ≡ true = same in cc)
  at (Some x) e same = e ∙ ap Some (sym (one-line l x same))

module _ (lines : List Line) (g : GroupState Msg) where
  lines_of : List Node → List Line
  lines_of nodes = filter (is_news lines) (map (line_of g) nodes)

  -- lines of others are passed over
  skipped : (nodes : List Node) (low p : ℕ) → IsRising low (map (λ s. s.id) nodes) → p < low → (o : Option Line) → fold (latest p) o (lines_of nodes) ≡ o
  unfolding lines_of
  skipped [] low p rise less o = refl
  skipped (s ∷ nodes) low p rise less o =
      let above = rise.0 in
      let rest = skipped nodes (suc s.id) p rise.1 (omega arith) in
      elim (cases_Bool (is_news lines (line_of g s))) [
        | inl news ↦ ap (fold (latest p) o) (cond-true (is_news lines (line_of g s)) (line_of g s ∷ lines_of nodes) (lines_of nodes) news)
            ∙ ap (λ x. fold (latest p) x (lines_of nodes)) (cond-false (s.id == p) (Some (line_of g s)) o (ne_eqb s.id p (λ e. (let a = above in omega arith)))) ∙ rest o
        | inr old ↦ ap (fold (latest p) o) (cond-false (is_news lines (line_of g s)) (line_of g s ∷ lines_of nodes) (lines_of nodes) old) ∙ rest o
      ]

  abbrev StandsIn : ℕ → List Line → Node → Type 0
  StandsIn low news s = (low ≤ s.id) × (fold (latest s.id) (line_in lines s.id) news ≡ Some (line_of g s))

  nodes-stand : (nodes : List Node) (low : ℕ) → IsRising low (map (λ s. s.id) nodes) → Each (StandsIn low (lines_of nodes)) nodes
  unfolding lines_of
  nodes-stand [] low rise = tt
  nodes-stand (s ∷ nodes) low rise =
      let above = rise.0 in
      let l = line_of g s in
      let rest = nodes-stand nodes (suc s.id) rise.1 in
      elim (cases_Bool (is_news lines l)) [
        | inl news ↦
            let is : lines_of (s ∷ nodes) ≡ l ∷ lines_of nodes = cond-true (is_news lines l) (l ∷ lines_of nodes) (lines_of nodes) news in (
              (
                above,
                ap (fold (latest s.id) (line_in lines s.id)) is
                    ∙ ap (λ x. fold (latest s.id) x (lines_of nodes)) (cond-true (s.id == s.id) (Some l) (line_in lines s.id) (eq-eqb s.id s.id refl))
                    ∙ skipped nodes (suc s.id) s.id rise.1 (omega arith) (Some l),
              ),
              Each-weaker (StandsIn (suc s.id) (lines_of nodes)) (StandsIn low (lines_of (s ∷ nodes))) (λ x there. (
                (let far = there.0 in omega arith),
                ap (fold (latest x.id) (line_in lines x.id)) is
                    ∙ ap (λ o. fold (latest x.id) o (lines_of nodes)) (cond-false (s.id == x.id) (Some l) (line_in lines x.id) (ne_eqb s.id x.id (λ e. (let far = there.0 in omega arith))))
                    ∙ there.1,
              )) nodes rest,
            )
        | inr old ↦
            let is : lines_of (s ∷ nodes) ≡ lines_of nodes = cond-false (is_news lines l) (l ∷ lines_of nodes) (lines_of nodes) old in (
              (above, ap (fold (latest s.id) (line_in lines s.id)) is ∙ skipped nodes (suc s.id) s.id rise.1 (omega arith) (line_in lines s.id) ∙ news-from lines l old),
              Each-weaker (StandsIn (suc s.id) (lines_of nodes)) (StandsIn low (lines_of (s ∷ nodes)))
                  (λ x there. ((let far = there.0 in omega arith), ap (fold (latest x.id) (line_in lines x.id)) is ∙ there.1)) nodes rest,
            )
      ]

-- the last printed line of each replica is its line as it stands
abbrev pub ArePrinted : World → Type 0
ArePrinted w = Each (λ s. printed w s.id ≡ Some (line_of w.group s)) w.nodes

pub stepped-printed : (w : World) (e : Event) → IsRising 0 (map (λ s. s.id) (world_step w e).world.nodes) → ArePrinted (world_step w e).world
unfolding world_step ended lines_of
stepped-printed w e rise =
    let x = (happens w e).world in
    Each-weaker (StandsIn x.lines x.group 0 (lines_of x.lines x.group x.nodes)) (λ s. line_in (fold with_printed x.lines (new_lines x)) s.id ≡ Some (line_of x.group s))
    (λ s there. printed-fold (new_lines x) x.lines s.id ∙ there.1) x.nodes (nodes-stand x.lines x.group x.nodes 0 rise)

step-prints : (c : Chronicle) (w : World) (s : Step) → (record { entry = s.entry; world = s.world } ≡ world_step w s.event) → StandsBeside c s.world → ArePrinted s.world
step-prints c w s moved stands =
    let rise : IsRising 0 (map (λ s. s.id) s.world.nodes) = subst (IsRising 0) (sym stands.same.nodes) stands.facts.lists.nodes in
    subst (λ (m : Moved). IsRising 0 (map (λ s. s.id) m.world.nodes) → ArePrinted m.world) (sym moved) (stepped-printed w s.event) rise

-- what holds of each node's line holds of the lines of a step
nodes-each : (P : Line → Type 0) (g : GroupState Msg) (all nodes : List Node) (low : ℕ) → ((s : Node) → find (λ x. x.id == s.id) all ≡ Some s → P (line_of g s)) → Each (IsFoundFrom low all) nodes → Each P (map (line_of g) nodes)
nodes-each P g all [] low of each = tt
nodes-each P g all (s ∷ nodes) low of each = (of s each.0.1, nodes-each P g all nodes low of each.1)

stepped-each : (P : Line → Type 0) (w : World) (e : Event) → (let v = (world_step w e).world in IsRising 0 (map (λ s. s.id) v.nodes) → ((s : Node) → node_of v s.id ≡ Some s → P (line_of v.group s)) → Each P (world_step w e).entry.lines)
unfolding world_step ended
stepped-each P w e rise of =
    let x = (happens w e).world in
    Each-filter P (is_news x.lines) (map (line_of x.group) x.nodes) (nodes-each P x.group x.nodes x.nodes 0 of (found-all x.nodes 0 rise))

pub lines-each : (P : Line → Type 0) (c : Chronicle) (w : World) (s : Step) → IsStepOf c w s → ((x : Node) → node_of s.world x.id ≡ Some x → P (line_of s.world.group x)) → Each P s.entry.lines
lines-each P c w s step of =
    let rise : IsRising 0 (map (λ s. s.id) s.world.nodes) = subst (IsRising 0) (sym step.behind.same.nodes) step.behind.facts.lists.nodes in
    subst (λ (m : Moved). IsRising 0 (map (λ s. s.id) m.world.nodes) → ((x : Node) → node_of m.world x.id ≡ Some x → P (line_of m.world.group x)) → Each P m.entry.lines) (sym step.moved) (stepped-each P w s.event) rise of

-- what was printed, against what was shown so far
pub record AreLinesTold (earlier : List Step) (w : World) : Type 0 where
  pub shown : (p : ℕ) → printed w p ≡ last_line p earlier
  pub stand : ArePrinted w

pub lines-on : (earlier : List Step) (c : Chronicle) (w : World) (s : Step) → IsStepOf c w s → AreLinesTold earlier w → AreLinesTold (through earlier s) s.world
lines-on earlier c w s step told = record {
  shown = λ p. step-printed w s step.moved p ∙ ap (λ o. fold (latest p) o s.entry.lines) (told.shown p)
      ∙ sym (ap (fold (latest p) None) (lines-last earlier s) ∙ fold-append (latest p) None (lines_in earlier) s.entry.lines);
  stand = step-prints (chronicle_step c w s.event) w s step.moved step.behind;
}

-- ---- what the last line of a replica that is up shows

pub each-find : (P : Node → Type 0) (t : Node → Bool) (xs : List Node) (s : Node) → Each P xs → find t xs ≡ Some s → P s
each-find P t [] s each e = absurd (let clash : None ≡ Some s = e in cc)
each-find P t (x ∷ xs) s each e = elim (cases_Bool (t x)) [
  | inl here ↦
      let is : Some x ≡ Some s = sym (cond-true (t x) (Some x) (find t xs) here) ∙ e in
      subst P (ap (λ o. option_map_or (λ y. y) o x) is) each.0
  | inr other ↦ each-find P t xs s each.1 (sym (cond-false (t x) (Some x) (find t xs) other) ∙ e)
]

-- the last line of a replica that is up
pub up-shown : (w : World) (steps : List Step) → ((p : ℕ) → printed w p ≡ last_line p steps) → ArePrinted w → (p : ℕ) (r : Replica) → replica_of w p ≡ Some r → IsSomeWith (last_up p steps) (λ up. up.view ≡ view_of r.held)
up-shown w steps shown stand p r runs = at (node_of w p) refl runs where
  there : (s : Node) → node_of w p ≡ Some s → (l : NodeState) → s.life ≡ l → running l ≡ Some r → IsSomeWith (last_up p steps) (λ up. up.view ≡ view_of r.held)
  there s found (Down disk green) life is = absurd (let clash : None ≡ Some r = is in cc)
  there s found (Up x disk) life is =
      let same : x ≡ r = ap (λ o. option_map_or (λ y. y) o x) is in
      let id : s.id ≡ p = node-id w p s found in
      let line : printed w p ≡ Some (line_of w.group s) =
      subst (λ n. printed w n ≡ Some (line_of w.group s)) id (each-find (λ s. printed w s.id ≡ Some (line_of w.group s)) (λ s. s.id == p) w.nodes s stand found) in
      let last : last_line p steps ≡ Some (line_of w.group s) = sym (shown p) ∙ line in
      let is_up : IsLastUp (last_line p steps) (last_up p steps) = last-up p (lines_in steps) None None tt in
      let here : IfSome (option_map (up_line (phase_of w.group s.id)) (running s.life)) (λ u. last_up p steps ≡ Some u) = subst (λ o. IsLastUp o (last_up p steps)) last is_up in
      let up : last_up p steps ≡ Some (up_line (phase_of w.group s.id) x) = subst (λ (l : NodeState). IfSome (option_map (up_line (phase_of w.group s.id)) (running l)) (λ u. last_up p steps ≡ Some u)) life here in
      subst (λ (o : Option UpLine). IsSomeWith o (λ up. up.view ≡ view_of r.held)) (sym up) (ap (λ (y : Replica). view_of y.held) same)

  at : (o : Option Node) → node_of w p ≡ o → option_and_then (λ s. running s.life) o ≡ Some r → IsSomeWith (last_up p steps) (λ up. up.view ≡ view_of r.held)
  at None found is = absurd (let clash : None ≡ Some r = is in cc)
  at (Some s) found is = there s found s.life refl is

-- its position and its white count are its own
pub position-shown : (steps : List Step) (w : World) → AreLinesTold steps w → (p : ℕ) (r : Replica) → replica_of w p ≡ Some r → position_of p steps ≡ green_count r.held.queue
unfolding view_of
position-shown steps w told p r runs = at (last_up p steps) (up-shown w steps told.shown told.stand p r runs) where
  at : (o : Option UpLine) → IsSomeWith o (λ up. up.view ≡ view_of r.held) → option_map_or (λ up. up.view.green_count) o 0 ≡ green_count r.held.queue
  at None is = absurd is
  at (Some up) is = ap (λ (v : View). v.green_count) is

pub white-shown : (steps : List Step) (w : World) → AreLinesTold steps w → (p : ℕ) (r : Replica) → replica_of w p ≡ Some r → white_of p steps ≡ r.held.queue.white
unfolding view_of
white-shown steps w told p r runs = at (last_up p steps) (up-shown w steps told.shown told.stand p r runs) where
  at : (o : Option UpLine) → IsSomeWith o (λ up. up.view ≡ view_of r.held) → option_map_or (λ up. up.view.white_count) o 0 ≡ r.held.queue.white
  at None is = absurd is
  at (Some up) is = ap (λ (v : View). v.white_count) is
