-- What stands behind the steps of a run: the world is reached, its replicas have numbers, and the rows that are kept are numbered.
use Rattle.std.proofs.Common.{◌≡◌, ℕ, zero, suc, ◌<◌, true, List, [], ◌∷◌, ◌++◌, map, length, Option, None, IfSome, Contains, refl, sym, ap, ap₂, ◌∙◌, subst, arith, append-nil, append_assoc}
use Rattle.std.specs.Option.{option_map_or}
use Rattle.std.proofs.lemmas.List.Elements.{Contains-append_right}
use Rattle.std.proofs.lemmas.List.Sums.{fold-append}
use Rattle.cg_base.specs.Lists.{Each}
use Rattle.cg_action.specs.declared.action.Action.{Action}
use Rattle.cg_queue.specs.Queue.{names_of}
use Rattle.cg_client.specs.Replica.{Held}
use Rattle.cg_report.specs.declared.entry.Made.{Made}
use Rattle.cg_disk_records.specs.Holds.{run_on}
use Rattle.cg_model.specs.World.{World, no_world}
use Rattle.cg_model.specs.Admission.{first_refusal}
use Rattle.cg_model.specs.Show.{Moved}
use Rattle.cg_model.specs.Step.{world_step}
use Rattle.cg_model.specs.Run.{MayStand, Step, IsRunFrom, world_after}
use Rattle.cg_model.specs.Shown.{made_at, made_from}
use Rattle.cg_model.specs.Agreement.{through}
use Rattle.cg_model.specs.Chronicle.{Chronicle, no_chronicle}
use Rattle.cg_model.specs.Noting.{chronicle_step, chronicle_after}
use Rattle.cg_model.specs.Looks.{disk_held}
use Rattle.cg_model.specs.Making.{made_as, AlwaysMadeInBook, IsMade}
use Rattle.cg_model.specs.Standing.{AlwaysStands, IsReached}
use Rattle.cg_model.specs.Telling.{EveryRunTells}
use Rattle.cg_agree_lemmas.specs.BookGrows.{IsNamed, named_in, named-all}
use Rattle.cg_items.specs.Relaxing.{with_step}
use Rattle.cg_items_agree.proofs.MadeRows.{AreNumbered, rows_of, no-rows, rows-step, numbered-on}
use Rattle.cg_items_agree.proofs.NamedIds.{AreIds, ids-behind, no-ids}
use Rattle.cg_base.specs.ElementLaws.{each-contains}
use Rattle.cg_model.specs.MadeLaws.{made-last}
use Rattle.cg_model.specs.RunLaws.{front-run, world-last, chronicle-last}
use Rattle.cg_model.specs.MadeRowLaws.{AreRowsOf}

-- ---- fronts of runs

record IsTaken (w : World) (s : Step) : Type 0 where
  may : MayStand w s.event
  admitted : first_refusal w s.event ≡ None
  moved : (record { entry = s.entry; world = s.world } ≡ world_step w s.event)

taken-there : (w : World) (xs : List Step) (s : Step) → IsRunFrom w (through xs s) → IsTaken (world_after w xs) s
taken-there w [] s run = record { may = run.0; admitted = run.1; moved = run.2 }
taken-there w (x ∷ xs) s run = taken-there x.world xs s run.3

-- ---- one book

there-each : {X : Type 0} (P : X → Type 0) (xs : List X) → ((x : X) → Contains xs x → P x) → Each P xs
there-each P [] each = tt
there-each P (y ∷ xs) each = (
  each y (zero, (let less : 0 < suc (length xs) = omega arith in less), refl),
  there-each P xs (λ x there. each x (Contains-append_right (y ∷ []) xs x there)),
)

-- two actions of a book with one name are one
one-action : (book : List Action) → run_on [] (names_of book) ≡ true → (a b : Action) → Contains book a →
    Contains book b → a.id ≡ b.id → a ≡ b
one-action book runs a b first second same =
    let all : Each (IsNamed book) book = named-all [] book runs in
    let one = each-contains (IsNamed book) book a all first in
    let other = each-contains (IsNamed book) book b all second in
    ap (λ o. option_map_or (λ x. x) o a) (sym one ∙ ap (named_in book) same ∙ other)

one-list : (book : List Action) → run_on [] (names_of book) ≡ true → (f g : Made → Action) →
    ((m : Made) → (f m).id ≡ (g m).id) → (list : List Made) →
    Each (Contains book) (map f list) → Each (Contains book) (map g list) → map f list ≡ map g list
one-list book runs f g same [] first second = refl
one-list book runs f g same (m ∷ list) first second =
    ap₂ (λ (a : Action) (rest : List Action). a ∷ rest) (one-action book runs (f m) (g m) first.0 second.0 (same m)) (one-list book runs f g same list first.1 second.1)

-- ---- behind the steps of a run

pub record IsBeside (steps : List Step) : Type 0 where
  pub reached : IsReached (chronicle_after no_chronicle no_world steps) (world_after no_world steps)
  pub ids : AreIds (world_after no_world steps)
  pub rows : AreRowsOf (made_from [] steps) (rows_of [] steps)
  pub numbered : AreNumbered (world_after no_world steps) (made_from [] steps)

module _ (stand : AlwaysStands) (tell : EveryRunTells) (book : AlwaysMadeInBook) where
  module _ (earlier : List Step) (s : Step) (run : IsRunFrom no_world (through earlier s)) (old : IsBeside earlier) where
    abbrev c : Chronicle
    c = chronicle_after no_chronicle no_world earlier

    abbrev w : World
    w = world_after no_world earlier

    abbrev d : Chronicle
    d = chronicle_step c w s.event

    abbrev now : List Step
    now = through earlier s

    abbrev list : List Action
    list = map (made_as s.world) s.entry.made

    is : IsTaken w s
    is = taken-there no_world earlier s run

    world-now : world_after no_world now ≡ s.world
    world-now = world-last no_world earlier s

    reached-now : IsReached d s.world
    reached-now = subst (λ (m : Moved). IsReached d m.world) (sym is.moved) (stand.step c w s.event old.reached is.may is.admitted)

    made-now : IsMade c d w (record { entry = s.entry; world = s.world })
    made-now = subst (IsMade c d w) (sym is.moved) (book c w s.event old.reached is.may is.admitted)

    shown-now : map (made_at now) s.entry.made ≡ list
    shown-now =
        let told = tell now run in
        one-list d.book (stand.beside d s.world reached-now).facts.replica.made_once.numbered (made_at now) (made_as s.world) (λ m. refl) s.entry.made
        (there-each (Contains d.book) (map (made_at now) s.entry.made) (λ a there.
        subst (λ (x : Chronicle). Contains x.book a) (chronicle-last no_chronicle no_world earlier s)
        (told.as_made a (subst (λ (all : List Action). Contains all a) (sym (made-last [] earlier s)) (Contains-append_right (made_from [] earlier) (map (made_at now) s.entry.made) a there)))))
        made-now.booked

    all-now : made_from [] now ≡ made_from [] earlier ++ list
    all-now = made-last [] earlier s ∙ ap (λ xs. made_from [] earlier ++ xs) shown-now

    own : (p : ℕ) → IfSome (disk_held w p) (λ h. h.id ≡ p)
    own p =
        let stands = stand.beside c w old.reached in
        subst (λ (o : Option Held). IfSome o (λ h. h.id ≡ p)) (sym (stands.same.disk p)) (stands.facts.net.hosted.disk p)

    beside-on : IsBeside now
    beside-on = record {
      reached = subst (λ (v : World). IsReached (chronicle_after no_chronicle no_world now) v) (sym world-now)
          (subst (λ (x : Chronicle). IsReached x s.world) (sym (chronicle-last no_chronicle no_world earlier s)) reached-now);
      ids = subst AreIds (sym world-now) (subst (λ (m : Moved). AreIds m.world) (sym is.moved) (ids-behind w s.event old.ids own is.may is.admitted));
      rows = subst (λ (all : List Action). AreRowsOf all (rows_of [] now)) (sym all-now)
          (subst (AreRowsOf (made_from [] earlier ++ list)) (sym (fold-append with_step [] earlier (s ∷ []))) (rows-step (made_from [] earlier) (rows_of [] earlier) s old.rows));
      numbered = subst (λ (v : World). AreNumbered v (made_from [] now)) (sym world-now)
          (subst (AreNumbered s.world) (sym all-now) (numbered-on w s.world (made_from [] earlier) list old.numbered made-now.next made-now.count));
    }

  beside-from : (earlier steps : List Step) → IsRunFrom no_world (earlier ++ steps) → IsBeside earlier →
      IsBeside (earlier ++ steps)
  beside-from earlier [] run old = subst IsBeside (sym (append-nil earlier)) old
  beside-from earlier (s ∷ steps) run old =
      let now = through earlier s in
      let joined : now ++ steps ≡ earlier ++ s ∷ steps = append_assoc earlier (s ∷ []) steps in
      let whole : IsRunFrom no_world (now ++ steps) = subst (IsRunFrom no_world) (sym joined) run in
      subst IsBeside joined (beside-from now steps whole (beside-on earlier s (front-run no_world now steps whole) old))

  pub beside-run : (steps : List Step) → IsRunFrom no_world steps → IsBeside steps
  beside-run steps run =
      beside-from [] steps run (record {
        reached = stand.first;
        ids = no-ids;
        rows = no-rows;
        numbered = record { count = λ p. refl; numbered = λ p. tt };
      })
