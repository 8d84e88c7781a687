-- Behind each step of a run every replica that is up owes the replies to those of its own actions that it lives since and that aren't green.
use Rattle.std.proofs.Common.{◌≡◌, ℕ, ◌+◌, nat_lt, nat_le, Bool, true, false, not, ◌&&◌, ◌||◌, is_some, List, [], ◌∷◌, ◌++◌, map, fold, Option, Some, None, IfSome, refl, sym, ap, ap₂, ◌∙◌, subst, option_and_then, option_map, append-nil, append_assoc}
use Rattle.std.specs.List.{list_any}
use Rattle.std.proofs.lemmas.Option.{same_Some}
use Rattle.cg_base.specs.declared.action_id.ActionId.{ActionId}
use Rattle.cg_base.specs.Ids.{has_name}
use Rattle.cg_base.specs.BoolLaws.{and_false}
use Rattle.cg_report.specs.declared.line.Line.{Line}
use Rattle.cg_report.specs.declared.entry.Made.{Made}
use Rattle.cg_group.specs.State.{phase_of}
use Rattle.cg_queue.specs.Queue.{names_of}
use Rattle.cg_client.specs.Replica.{Held, Replica, created}
use Rattle.cg_client.specs.Turn.{Turn}
use Rattle.cg_disk_records.specs.Stored.{whiten}
use Rattle.cg_states.specs.ReplicaStep.{replica_step}
use Rattle.cg_disk_records.specs.Crash.{Disk, EventEnd, Runs, Crashes, whitened}
use Rattle.cg_model.specs.World.{NodeState, Up, Down, Node, World, no_world, running, node_of, replica_of}
use Rattle.cg_model.specs.Show.{StepInProgress, Moved, line_of, up_line}
use Rattle.cg_model.specs.Step.{happens}
use Rattle.cg_model.specs.Run.{Step, IsRunFrom}
use Rattle.cg_model.specs.Shown.{lines_in}
use Rattle.cg_model.specs.Agreement.{through, is_down_in, is_recovery_of, is_created_in, lives_since}
use Rattle.cg_model.specs.Looks.{on_disk, disk_held}
use Rattle.cg_model.specs.FactsLists.{IsRising}
use Rattle.cg_model.specs.Played.{AlwaysHolds}
use Rattle.cg_model.specs.Telling.{latest, last_line}
use Rattle.cg_agree_lemmas.specs.DiskEnds.{end-cases}
use Rattle.cg_agree_lemmas.specs.NodeFacts.{node-id}
use Rattle.cg_agree_lemmas.specs.MadeWorlds.{IsCoreAt, LifeSound, NodeSound, green-created}
use Rattle.cg_agree.proofs.MadeBookKept.{sound-at}
use Rattle.cg_agree_lemmas.specs.TurnWorlds.{life_at}
use Rattle.cg_agree.proofs.RunSteps.{IsStepAt, StandsFor, stands-for, step-of}
use Rattle.cg_agree_lemmas.specs.OwedNames.{own_name, own-named}
use Rattle.cg_agree_lemmas.specs.StepSays.{IsOwing, SaysSo, step-says}
use Rattle.cg_agree_lemmas.specs.EventSays.{made_ids, OwesSo, LifeOwes, NodeOwes, made_by, replies_by}
use Rattle.cg_agree.proofs.EventMeets.{SaidOnly, KeptIn, TurnsIn, FallsIn, WakesIn, BeginsIn, Meets, Stays, Turns, Falls, Wakes, Begins}
use Rattle.cg_agree.proofs.EventsMeet.{happens-meets}
use Rattle.cg_agree_lemmas.specs.LivesSince.{lives-next, is_down_line, not-down, goes-down}
use Rattle.cg_agree.proofs.OwedRun.{LivesOf, LivesAt, OwedAt, joined-range, none-range, owes-none, StepShows, step-shows, lines-both, lines-fold, last-is}
use Rattle.cg_model.specs.RunLaws.{world_of, chronicle_of}
use Rattle.cg_disk_records.specs.HeldLaws.{whitened-created}

-- what is held owes the same behind a commit
whitened-owing : (p base : ℕ) (h : Held) → IsOwing p base h → IsOwing p base (whiten h)
unfolding whiten
whitened-owing p base h is = record { low = is.low; owed = is.owed }

whole : (b : Bool) → ((b && true) || false) ≡ b
whole true = refl
whole false = refl

gone : (a : Bool) → ((a && false) || false) ≡ false
gone true = refl
gone false = refl

module _ (always : AlwaysHolds) (earlier : List Step) (s : Step) (is : IsStepAt earlier s) (owed : (p : ℕ) → OwedAt earlier p) where
  abbrev now : List Step
  now = through earlier s

  abbrev w : World
  w = world_of earlier

  abbrev h : StepInProgress
  h = happens w s.event

  abbrev before : StandsFor earlier
  before = stands-for always earlier is.before

  abbrev behind : StandsFor now
  behind = stands-for always now is.behind

  shows : StepShows earlier s
  shows = step-shows earlier s is

  pub owes-before : (p : ℕ) → NodeOwes (chronicle_of earlier).start p (node_of w p)
  owes-before p = at (node_of w p) (sound-at (chronicle_of earlier) w before.stands p) ((owed p).lives) where
    life : (l : NodeState) → LifeSound (chronicle_of earlier).start p l → LivesAt earlier p (running l) → LifeOwes (chronicle_of earlier).start p l
    life (Up r disk) sound lives = record { base = lives.base; core = sound.0; owing = lives.owing }
    life (Down disk green) sound lives = tt

    at : (o : Option Node) → NodeSound (chronicle_of earlier).start p o → LivesAt earlier p (option_and_then (λ s. running s.life) o) → NodeOwes (chronicle_of earlier).start p o
    at None sound lives = tt
    at (Some x) sound lives = life x.life sound lives

  pub meets : (p : ℕ) → Meets w s.event h p
  meets p = happens-meets (chronicle_of earlier) w before.stands owes-before s.event is.may is.admitted p

  -- the world behind the step has the event's nodes
  pub node-now : (p : ℕ) → node_of (world_of now) p ≡ node_of h.world p
  node-now p = ap (λ (list : List Node). node_of (record w { nodes = list }) p) shows.nodes

  pub runs-now : (p : ℕ) → replica_of (world_of now) p ≡ replica_of h.world p
  runs-now p = ap (λ (o : Option Node). option_and_then (λ s. running s.life) o) (node-now p)

  disk-now : (p : ℕ) → disk_held (world_of now) p ≡ disk_held h.world p
  disk-now p = ap (λ (o : Option Node). option_map (λ s. on_disk s.life) o) (node-now p)

  -- ---- what is shown as created, and as down

  pub created-now : (p i : ℕ) (made : List ActionId) → ((i : ℕ) → has_name (made_ids h.made) (own_name p i) ≡ (has_name (made_ids []) (own_name p i) || has_name made (own_name p i))) →
      is_created_in (own_name p i) s ≡ (has_name made (own_name p i) && not (is_recovery_of p s.event))
  created-now p i made said = ap (λ b. b && not (is_recovery_of p s.event)) (ap (λ (list : List Made). has_name (made_ids list) (own_name p i)) shows.made ∙ said i)

  pub up-now : (p : ℕ) (r : Replica) → replica_of (world_of now) p ≡ Some r → is_down_in p s ≡ false
  up-now p r runs =
      let moved = is.world ∙ ap (λ (m : Moved). m.world) is.moved in
      let rise : IsRising 0 (map (λ s. s.id) (world_of now).nodes) = subst (IsRising 0) (sym behind.stands.same.nodes) behind.stands.facts.lists.nodes in
      ap (λ (m : Moved). list_any (is_down_line p) m.entry.lines) is.moved
      ∙ not-down w s.event p r (subst (IsRising 0) (ap (λ (v : World). map (λ s. s.id) v.nodes) moved) rise) (ap (λ (v : World). replica_of v p) (sym moved) ∙ runs)

  down-now : (p : ℕ) (r : Replica) (disk : Disk) (green : List ActionId) → replica_of w p ≡ Some r → node_of (world_of now) p ≡ Some (record { id = p; life = Down disk green }) → is_down_in p s ≡ true
  down-now p r disk green runs node = at (node_of w p) refl runs where
    fallen : Line
    fallen = line_of (world_of now).group (record { id = p; life = Down disk green })

    last : last_line p now ≡ Some fallen
    last = last-is now behind p (record { id = p; life = Down disk green }) node refl

    at : (o : Option Node) → node_of w p ≡ o → option_and_then (λ s. running s.life) o ≡ Some r → is_down_in p s ≡ true
    at None found up = absurd (let clash : None ≡ Some r = up in cc)
    at (Some x) found up =
        let first = last-is earlier before p x found (node-id w p x found) in
        let up_first : is_some (line_of w.group x).up ≡ true = ap (λ (o : Option Replica). is_some (option_map (up_line (phase_of w.group x.id)) o)) up in
        let all : last_line p now ≡ fold (latest p) (last_line p earlier) s.entry.lines = ap (fold (latest p) None) (lines-both earlier s) ∙ lines-fold p (lines_in earlier) s.entry.lines None in
        goes-down p s.entry.lines (last_line p earlier)
        (subst (λ (o : Option Line). IfSome o (λ l. is_some l.up ≡ true)) (sym first) up_first)
        (subst (λ (o : Option Line). IfSome o (λ l. is_some l.up ≡ false)) (sym last ∙ all) refl)
        (ap is_some first)

  -- ---- each way in which an event meets a replica

  record Result (p : ℕ) : Type 0 where
    disk : IfSome (disk_held (world_of now) p) (λ h. h.owed ≡ [])
    lives : LivesAt now p (replica_of (world_of now) p)

  none-lives : (p : ℕ) → replica_of (world_of now) p ≡ None → ((i : ℕ) → lives_since (own_name p i) now ≡ false) → LivesAt now p (replica_of (world_of now) p)
  none-lives p runs lives = subst (LivesAt now p) (sym runs) lives

  -- nothing was lived since before, and nothing is created
  fresh-lives : (p : ℕ) (r : Replica) → replica_of (world_of now) p ≡ Some r → r.held.owed ≡ [] → replica_of w p ≡ None → ((i : ℕ) → is_created_in (own_name p i) s ≡ false) → LivesAt now p (replica_of (world_of now) p)
  fresh-lives p r runs none off made =
      let was : LivesAt earlier p None = subst (LivesAt earlier p) off (owed p).lives in
      let core = core-now p r runs in
      subst (LivesAt now p) (sym runs) (record {
        base = created r.held;
        owing = owes-none p r.held none (green-created (chronicle_of now).start p r.held core);
        lives = λ i. lives-next (own_name p i) earlier s ∙ ap₂ (λ a b. (a && not (is_down_in p s)) || b) (was i) (made i) ∙ sym (none-range (created r.held) i);
      })
    where
      core-now : (p : ℕ) (r : Replica) → replica_of (world_of now) p ≡ Some r → IsCoreAt (chronicle_of now).start p r.held
      core-now p r runs = at (node_of (world_of now) p) (sound-at (chronicle_of now) (world_of now) behind.stands p) runs where
        life : (l : NodeState) → LifeSound (chronicle_of now).start p l → running l ≡ Some r → IsCoreAt (chronicle_of now).start p r.held
        life (Up x disk) sound e = subst (λ (x : Replica). IsCoreAt (chronicle_of now).start p x.held) (same_Some x r e) sound.0
        life (Down disk green) sound e = absurd (let clash : None ≡ Some r = e in cc)

        at : (o : Option Node) → NodeSound (chronicle_of now).start p o → option_and_then (λ s. running s.life) o ≡ Some r → IsCoreAt (chronicle_of now).start p r.held
        at None sound e = absurd (let clash : None ≡ Some r = e in cc)
        at (Some x) sound e = life x.life sound e

  stays : (p : ℕ) → KeptIn w h.world p → SaidOnly h p [] [] → Result p
  stays p kept said = record {
    disk = subst (λ (o : Option Held). IfSome o (λ h. h.owed ≡ [])) (sym (disk-now p ∙ kept.disk)) (owed p).disk;
    lives = at (replica_of w p) refl (owed p).lives;
  } where
    none : (i : ℕ) → is_created_in (own_name p i) s ≡ false
    none i = created-now p i [] said.made

    at : (o : Option Replica) → replica_of w p ≡ o → LivesAt earlier p o → LivesAt now p (replica_of (world_of now) p)
    at None runs lives = none-lives p (runs-now p ∙ kept.runs ∙ runs) (λ i. lives-next (own_name p i) earlier s ∙ ap₂ (λ a b. (a && not (is_down_in p s)) || b) (lives i) (none i))
    at (Some r) runs lives =
        let up = runs-now p ∙ kept.runs ∙ runs in
        subst (LivesAt now p) (sym up) (record {
          base = lives.base;
          owing = lives.owing;
          lives = λ i. lives-next (own_name p i) earlier s ∙ ap₂ (λ (d c : Bool). (lives_since (own_name p i) earlier && not d) || c) (up-now p r up) (none i)
              ∙ whole (lives_since (own_name p i) earlier) ∙ lives.lives i;
        })

  fallen-lives : (p : ℕ) (disk : Disk) (green : List ActionId) → node_of (world_of now) p ≡ Some (record { id = p; life = Down disk green }) → ((i : ℕ) → is_created_in (own_name p i) s ≡ false) →
      LivesAt now p (replica_of (world_of now) p)
  fallen-lives p disk green node none = none-lives p (ap (λ (o : Option Node). option_and_then (λ s. running s.life) o) node)
      (λ i. lives-next (own_name p i) earlier s ∙ ap (λ c. (lives_since (own_name p i) earlier && not (is_down_in p s)) || c) (none i) ∙ at i (replica_of w p) refl (owed p).lives) where
        at : (i : ℕ) (o : Option Replica) → replica_of w p ≡ o → LivesAt earlier p o → ((lives_since (own_name p i) earlier && not (is_down_in p s)) || false) ≡ false
        at i None runs lives = ap (λ a. (a && not (is_down_in p s)) || false) (lives i)
        at i (Some r) runs lives = ap (λ d. (lives_since (own_name p i) earlier && not d) || false) (down-now p r disk green runs node) ∙ gone (lives_since (own_name p i) earlier)

  -- a turn, whichever way it ends
  module _ (p : ℕ) (turn : TurnsIn w s.event h p) where
    abbrev r : Replica
    r = turn.replica

    abbrev t : Turn
    t = replica_step turn.replica turn.input

    mine : OwesSo (chronicle_of earlier).start p r.held
    mine = subst (NodeOwes (chronicle_of earlier).start p) turn.before (owes-before p)

    pub was : LivesOf earlier p r
    was = subst (LivesAt earlier p) (ap (λ (o : Option Node). option_and_then (λ s. running s.life) o) turn.before) (owed p).lives

    pub says : SaysSo p was.base r.held t
    says = step-says (chronicle_of earlier).start p was.base r turn.input mine.core was.owing

    disk-before : turn.disk.content.owed ≡ []
    disk-before = subst (λ (o : Option Held). IfSome o (λ h. h.owed ≡ [])) (ap (λ (o : Option Node). option_map (λ s. on_disk s.life) o) turn.before) (owed p).disk

    abbrev Ends : EventEnd → Type 0
    Ends e = node_of h.world p ≡ Some (record { id = p; life = life_at e }) → SaidOnly h p (made_by t e) (replies_by t e) → Result p

    -- its own actions that it lives since, where it runs on
    pub turned-lives : (x : Replica) → replica_of (world_of now) p ≡ Some x → created x.held ≡ created t.replica.held → SaidOnly h p (names_of t.made) t.replies → (i : ℕ) →
        lives_since (own_name p i) now ≡ (nat_lt was.base i && nat_le i (created x.held))
    turned-lives x up same said i =
        let m = created r.held in
        let total : created x.held ≡ m + says.count = same ∙ says.reached in
        let made : has_name (names_of t.made) (own_name p i) ≡ (nat_lt m i && nat_le i (m + says.count)) = ap (λ ids. has_name ids (own_name p i)) says.made ∙ own-named p m says.count i in
        lives-next (own_name p i) earlier s
        ∙ ap₂ (λ (a b : Bool). (a && not b) || is_created_in (own_name p i) s) (was.lives i) (up-now p x up)
        ∙ ap (λ (c : Bool). ((nat_lt was.base i && nat_le i m) && true) || c)
        (created-now p i (names_of t.made) said.made ∙ ap₂ (λ (a b : Bool). a && not b) made turn.no_recovery)
        ∙ joined-range was.base m says.count i was.owing.low
        ∙ ap (λ n. nat_lt was.base i && nat_le i n) (sym total)

    runs-on : (x : Replica) (d : Disk) → IsOwing p was.base x.held → created x.held ≡ created t.replica.held → d.content.owed ≡ [] → Ends (Runs x d)
    runs-on x d owing same none node said =
        let now_node = node-now p ∙ node in
        let up : replica_of (world_of now) p ≡ Some x = ap (λ (o : Option Node). option_and_then (λ s. running s.life) o) now_node in
        record {
          disk = subst (λ (o : Option Held). IfSome o (λ h. h.owed ≡ [])) (sym (ap (λ (o : Option Node). option_map (λ s. on_disk s.life) o) now_node)) none;
          lives = subst (LivesAt now p) (sym up) (record {
            base = was.base;
            owing = owing;
            lives = λ i. turned-lives x up same said i;
          });
        }

    falls-down : (d : Disk) (green : List ActionId) → d.content.owed ≡ [] → Ends (Crashes d green)
    falls-down d green none node said =
        let now_node = node-now p ∙ node in
        record {
          disk = subst (λ (o : Option Held). IfSome o (λ h. h.owed ≡ [])) (sym (ap (λ (o : Option Node). option_map (λ s. on_disk s.life) o) now_node)) none;
          lives = fallen-lives p d green now_node (λ i. created-now p i [] said.made);
        }

    turn-ends : Result p
    turn-ends =
        end-cases turn.disk r.held t Ends
        (λ quiet d content. runs-on t.replica d says.owing refl (ap (λ (s : Held). s.owed) content ∙ disk-before))
        (λ does d content. runs-on (whitened t.replica) d (whitened-owing p was.base t.replica.held says.owing) (whitened-created t.replica.held) (ap (λ (s : Held). s.owed) content))
        (λ kept d green content. falls-down d green (ap (λ (s : Held). s.owed) content))
        (λ lost d green content. falls-down d green (ap (λ (s : Held). s.owed) content ∙ disk-before))
        turn.behind turn.said

  falls : (p : ℕ) → FallsIn w h p → Result p
  falls p x = record {
    disk = subst (λ (o : Option Held). IfSome o (λ h. h.owed ≡ [])) (sym (disk-now p ∙ x.disk)) (owed p).disk;
    lives = fallen-lives p x.fallen x.green (node-now p ∙ x.node) (λ i. created-now p i [] x.said.made);
  }

  wakes : (p : ℕ) → WakesIn w s.event h p → Result p
  wakes p x =
      let none : (i : ℕ) → is_created_in (own_name p i) s ≡ false = λ i. created-now p i x.made x.said.made ∙ ap (λ (b : Bool). has_name x.made (own_name p i) && not b) x.event ∙ and_false (has_name x.made (own_name p i)) in
      record {
        disk = subst (λ (o : Option Held). IfSome o (λ h. h.owed ≡ [])) (sym (disk-now p ∙ x.disk)) (owed p).disk;
        lives = fresh-lives p x.replica (runs-now p ∙ x.runs) (x.owed (owed p).disk) x.none none;
      }

  begins : (p : ℕ) → BeginsIn w h p → Result p
  begins p x = record {
    disk = subst (λ (o : Option Held). IfSome o (λ h. h.owed ≡ [])) (sym (disk-now p ∙ x.disk)) x.owed;
    lives = fresh-lives p x.replica (runs-now p ∙ x.runs) x.owed x.none (λ i. created-now p i [] x.said.made);
  }

  pub owed-next : (p : ℕ) → OwedAt now p
  owed-next p = at (meets p) where
    so : Result p → OwedAt now p
    so x = record { disk = x.disk; lives = x.lives }

    at : Meets w s.event h p → OwedAt now p
    at (Stays kept said) = so (stays p kept said)
    at (Turns turn) = so (turn-ends p turn)
    at (Falls x) = so (falls p x)
    at (Wakes x) = so (wakes p x)
    at (Begins x) = so (begins p x)

-- ---- a run

module _ (always : AlwaysHolds) where
  owed-along : (earlier rest : List Step) → IsRunFrom no_world (earlier ++ rest) → ((p : ℕ) → OwedAt earlier p) → (p : ℕ) → OwedAt (earlier ++ rest) p
  owed-along earlier [] run owed p = subst (λ steps. OwedAt steps p) (sym (append-nil earlier)) (owed p)
  owed-along earlier (s ∷ rest) run owed p =
      let joined : (earlier ++ s ∷ []) ++ rest ≡ earlier ++ s ∷ rest = append_assoc earlier (s ∷ []) rest in
      let is = step-of always (earlier ++ s ∷ rest) run earlier s (rest, refl) in
      subst (λ steps. OwedAt steps p) joined
      (owed-along (earlier ++ s ∷ []) rest (subst (IsRunFrom no_world) (sym joined) run) (owed-next always earlier s is owed) p)

  -- Behind the steps of each run.
  pub owed-run : (steps : List Step) → IsRunFrom no_world steps → (p : ℕ) → OwedAt steps p
  owed-run steps run p = owed-along [] steps run (λ q. record { disk = tt; lives = λ i. refl }) p
