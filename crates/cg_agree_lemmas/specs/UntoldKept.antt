-- Who has told nothing in a new configuration can enter it, also behind the turns of others.
use Rattle.std.proofs.Common.{◌≡◌, ℕ, Bool, true, false, cond, ◌&&◌, List, [], ◌∷◌, ◌++◌, Option, Some, None, IfSome, map, find, filter_map, refl, sym, ap, ◌∙◌, subst, length, is_some, option_and_then}
use Rattle.std.specs.Prelude.{◌==◌}
use Rattle.std.specs.Option.{option_map_or}
use Rattle.std.proofs.lemmas.Bool.{cond_both, ne_eqb}
use Rattle.cg_group.specs.Events.{become_regular}
use Rattle.cg_group.specs.LookupLaws.{configurations-set_standing}
use Rattle.cg_knowledge.specs.declared.summary.Summary.{Summary}
use Rattle.cg_client.specs.Replica.{Replica}
use Rattle.cg_client.specs.Turn.{Turn, begin}
use Rattle.cg_client.specs.Requests.{settle}
use Rattle.cg_client.specs.Summary.{summary_of}
use Rattle.cg_disk_records.specs.Commit.{commits}
use Rattle.cg_disk_records.specs.Crash.{EventEnd, Runs, Crashes as EndsInCrash}
use Rattle.cg_model.specs.World.{NodeState, Up, Down, Node, running, node_of, replica_of}
use Rattle.cg_model.specs.Chronicle.{Told, Chronicle}
use Rattle.cg_model.specs.Looks.{greens_of, told_in}
use Rattle.cg_model.specs.Talk.{summary_in}
use Rattle.cg_model.specs.Turns.{Taken, stands}
use Rattle.cg_model.specs.Small.{Small, Starts, Makes, Enters, Orders, Receives, Hands, Leaves, Asks, Settles, Commits, Crashes, Recovers, Copies, Joins, newest_conf, coming, take_newest, turning, turning_as, after_turn, commit_as, crash_as, small_step}
use Rattle.cg_model.specs.Smalls.{is_between, ending, ending_as}
use Rattle.cg_model.specs.Noting.{played}
use Rattle.cg_agree_lemmas.specs.Keyed.{find-none}
use Rattle.cg_agree_lemmas.specs.EntersTurn.{told-newest}
use Rattle.cg_agree_lemmas.specs.ToldKept.{IsUntold, told-same, told_in-same}
use Rattle.cg_agree_lemmas.specs.GroupChanges.{configurations-sent, configurations-down}
use Rattle.cg_agree_lemmas.specs.EventTurns.{is-up}
use Rattle.cg_agree_lemmas.specs.RestFacts.{IsOf, others-kept}
use Rattle.cg_agree_lemmas.specs.SmallWorlds.{RestAlong}

-- the steps of a member of a merge
abbrev pub IsMerging : ℕ → Small → Type 0
IsMerging p (Settles q) = q ≡ p
IsMerging p (Commits q) = q ≡ p
IsMerging p (Crashes q) = q ≡ p
IsMerging p _ = ⊥

confs-turning : (c : Chronicle) (p : ℕ) (part : Turn → Turn) → (turning c p part).world.group.configurations ≡ c.world.group.configurations
confs-turning c p part = at (node_of c.world p) where
  life : (l : NodeState) → (turning_as c p part l).world.group.configurations ≡ c.world.group.configurations
  life (Up r disk) = configurations-sent (part (begin r)).sent c.world.group p
  life (Down disk green) = refl

  at : (o : Option Node) → (option_map_or (λ s. turning_as c p part s.life) o c).world.group.configurations ≡ c.world.group.configurations
  at None = refl
  at (Some s) = life s.life

confs-enter : (c : Chronicle) (p : ℕ) → (small_step c (Enters p)).world.group.configurations ≡ c.world.group.configurations
unfolding small_step become_regular
confs-enter c p = confs-turning (coming c p) p (take_newest c.world.group) ∙ configurations-set_standing c.world.group _

confs-merging : (c : Chronicle) (s : Small) (p : ℕ) → IsMerging p s → (small_step c s).world.group.configurations ≡ c.world.group.configurations
unfolding small_step
confs-merging c (Settles q) p is = confs-turning c q settle
confs-merging c (Commits q) p is = at (node_of c.world q) where
  life : (l : NodeState) → (commit_as c q l).world.group.configurations ≡ c.world.group.configurations
  life (Up r disk) = refl
  life (Down disk green) = refl

  at : (o : Option Node) → (option_map_or (λ s. commit_as c q s.life) o c).world.group.configurations ≡ c.world.group.configurations
  at None = refl
  at (Some s) = life s.life
confs-merging c (Crashes q) p is = at (node_of c.world q) where
  life : (l : NodeState) → (crash_as c q l).world.group.configurations ≡ c.world.group.configurations
  life (Up r disk) = configurations-down c.world.group q
  life (Down disk green) = refl

  at : (o : Option Node) → (option_map_or (λ s. crash_as c q s.life) o c).world.group.configurations ≡ c.world.group.configurations
  at None = refl
  at (Some s) = life s.life
confs-merging c (Starts set) p is = absurd is
confs-merging c (Makes set) p is = absurd is
confs-merging c (Enters q) p is = absurd is
confs-merging c (Orders q) p is = absurd is
confs-merging c (Receives q place) p is = absurd is
confs-merging c (Hands q) p is = absurd is
confs-merging c (Leaves q set own places) p is = absurd is
confs-merging c (Asks q kind) p is = absurd is
confs-merging c (Recovers q) p is = absurd is
confs-merging c (Copies q joiner) p is = absurd is
confs-merging c (Joins joiner) p is = absurd is

-- a replica that has told nothing in the newest configuration, comes from between two, and has its own name
pub record IsUntoldIn (conf : ℕ) (c : Chronicle) (q : ℕ) : Type 0 where
  pub told : told_in c conf q ≡ None
  pub newest : newest_conf c.world.group ≡ conf
  pub between : IfSome (replica_of c.world q) (λ r. (is_between r.state ≡ true) × (r.held.id ≡ q))

-- where it isn't up nothing is told
none-told : (c : Chronicle) (p : ℕ) (part : Turn → Turn) → replica_of c.world p ≡ None → (turning c p part).told ≡ c.told
none-told c p part e = at (node_of c.world p) refl where
  life : (s : Node) → node_of c.world p ≡ Some s → (l : NodeState) → s.life ≡ l → (turning_as c p part l).told ≡ c.told
  life s f (Down disk green) is = refl
  life s f (Up r disk) is = absurd (let clash : Some r ≡ None = sym (ap (λ (o : Option Node). option_and_then (λ s. running s.life) o) f ∙ ap running is) ∙ e in cc)

  at : (o : Option Node) → node_of c.world p ≡ o → (option_map_or (λ s. turning_as c p part s.life) o c).told ≡ c.told
  at None f = refl
  at (Some s) f = life s f s.life refl

abbrev made-told : Chronicle → ℕ → Summary → Told
made-told c p s = record { summary = s; greens = greens_of c p }

-- who enters tells something of itself alone
entering-told : (c : Chronicle) (p q conf : ℕ) → (q ≡ p → ⊥) → IfSome (replica_of c.world p) (λ r. (is_between r.state ≡ true) × (r.held.id ≡ p)) → told_in c conf q ≡ None →
    told_in (small_step c (Enters p)) conf q ≡ None
unfolding small_step summary_of
entering-told c p q conf apart mine none = at (replica_of c.world p) refl mine where
  test : Told → Bool
  test t = (t.summary.conf == conf) && (t.summary.id == q)

  part : Turn → Turn
  part = take_newest c.world.group

  no-match : (b : Bool) (n : ℕ) (x : Told) → n ≡ p → cond (b && (n == q)) (Some x) None ≡ None
  no-match b n x is = ap (λ z. cond (b && z) (Some x) None) (ne_eqb n q (λ e. apart (sym e ∙ is))) ∙ either b where
    either : (b : Bool) → cond (b && false) (Some x) None ≡ None
    either true = refl
    either false = refl

  at : (o : Option Replica) → replica_of c.world p ≡ o → IfSome o (λ r. (is_between r.state ≡ true) × (r.held.id ≡ p)) → find test (turning (coming c p) p part).told ≡ None
  at None e is = ap (find test) (none-told (coming c p) p part e) ∙ none
  at (Some r) e is =
      let here = is-up c.world p (ap is_some e) in
      let same : here.replica ≡ r = some-replica here.replica r (sym (ap (λ (o : Option Node). option_and_then (λ s. running s.life) o) here.node) ∙ e) in
      let turn = told-newest c.world.group r is.0 in
      let u = part (begin r) in
      let one : Told = record { summary = summary_of u.replica.held (newest_conf c.world.group); greens = greens_of c p } in
      let goes : turning (coming c p) p part ≡ after_turn (coming c p) p here.replica here.disk (part (begin here.replica)) =
      ap (λ (o : Option Node). option_map_or (λ s. turning_as (coming c p) p part s.life) o (coming c p)) here.node in
      let told : (turning (coming c p) p part).told ≡ c.told ++ one ∷ [] =
      ap (λ (x : Chronicle). x.told) goes ∙ ap (λ (z : Replica). c.told ++ map (made-told c p) (filter_map summary_in (part (begin z)).sent)) same
      ∙ ap (λ xs. c.told ++ map (made-told c p) (filter_map summary_in xs)) turn.sent in
      ap (find test) told ∙ find-none test c.told (one ∷ []) none ∙ no-match (one.summary.conf == conf) one.summary.id one (turn.id ∙ is.1) where
        some-replica : (x y : Replica) → Some x ≡ Some y → x ≡ y
        some-replica x y e = ap (λ o. option_map_or (λ z. z) o x) e

module _ (conf : ℕ) where
  merging-keeps : (c : Chronicle) (s : Small) (p q : ℕ) → IsMerging p s → IsUntold s → IsOf p s → (q ≡ p → ⊥) → IsUntoldIn conf c q → IsUntoldIn conf (small_step c s) q
  merging-keeps c s p q is silent of apart old =
      let kept = others-kept c s p q of apart in
      record {
        told = told_in-same c (small_step c s) (told-same c s silent) conf q ∙ old.told;
        newest = ap length (confs-merging c s p is) ∙ old.newest;
        between = subst (λ (o : Option Node). IfSome (option_and_then (λ s. running s.life) o) (λ r. (is_between r.state ≡ true) × (r.held.id ≡ q))) (sym kept.node) old.between;
      }

  entering-keeps : (c : Chronicle) (p q : ℕ) → (q ≡ p → ⊥) → IsUntoldIn conf c p → IsUntoldIn conf c q → IsUntoldIn conf (small_step c (Enters p)) q
  entering-keeps c p q apart mine old =
      let kept = others-kept c (Enters p) p q refl apart in
      record {
        told = entering-told c p q conf apart mine.between old.told;
        newest = ap length (confs-enter c p) ∙ old.newest;
        between = subst (λ (o : Option Node). IfSome (option_and_then (λ s. running s.life) o) (λ r. (is_between r.state ≡ true) × (r.held.id ≡ q))) (sym kept.node) old.between;
      }

  -- the block of a member keeps it of the others
  abbrev pub merge_block : ℕ → List Small
  merge_block q = Enters q ∷ Settles q ∷ []

  pub block-keeps : (c : Chronicle) (k : Taken) (q : ℕ) → (q ≡ k.id → ⊥) → IsUntoldIn conf c k.id → IsUntoldIn conf c q → IsUntoldIn conf (played c (ending merge_block k)) q
  block-keeps c k q apart mine old = at k.ended where
    p : ℕ
    p = k.id

    settled : IsUntoldIn conf (small_step (small_step c (Enters p)) (Settles p)) q
    settled = merging-keeps (small_step c (Enters p)) (Settles p) p q refl tt refl apart (entering-keeps c p q apart mine old)

    committed : IsUntoldIn conf (small_step (small_step (small_step c (Enters p)) (Settles p)) (Commits p)) q
    committed = merging-keeps (small_step (small_step c (Enters p)) (Settles p)) (Commits p) p q refl tt refl apart settled

    at : (e : EventEnd) → IsUntoldIn conf (played c (ending_as k (merge_block p) e)) q
    at (Runs r disk) = cond_both (commits k.before.held k.turn) (Commits p ∷ []) [] (λ list. IsUntoldIn conf (played c (Enters p ∷ Settles p ∷ list)) q) (λ y. committed) (λ n. settled)
    at (EndsInCrash disk green) =
        cond_both (stands k) (Enters p ∷ Settles p ∷ Commits p ∷ Crashes p ∷ []) (Crashes p ∷ []) (λ list. IsUntoldIn conf (played c list) q)
        (λ y. merging-keeps (small_step (small_step (small_step c (Enters p)) (Settles p)) (Commits p)) (Crashes p) p q refl tt refl apart committed)
        (λ n. merging-keeps c (Crashes p) p q refl tt refl apart old)

  pub block-opens : (c : Chronicle) (q : ℕ) → IsUntoldIn conf c q → RestAlong c (merge_block q)
  block-opens c q is = (ap (λ n. told_in c n q) is.newest ∙ is.told, (tt, tt))
