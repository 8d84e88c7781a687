-- What is a front of the newest level's line, and no longer than what some member has, is so for ever; and each creator's actions stand in
-- it one after another.
use Rattle.std.proofs.Common.{◌≡◌, ℕ, zero, suc, ◌≤◌, ◌<◌, true, false, List, [], ◌∷◌, ◌++◌, length, Option, Some, None, IfSome, refl, sym, ap, ◌∙◌, subst, arith, option_map, is_some, inl, inr, map}
use Rattle.std.specs.Option.{option_map_or}
use Rattle.std.proofs.lemmas.Bool.{cond_both}
use Rattle.cg_base.specs.Lists.{greatest}
use Rattle.cg_action.specs.declared.action.Action.{Action}
use Rattle.cg_queue.specs.Queue.{names_of}
use Rattle.cg_wire.specs.declared.message.Msg.{Msg}
use Rattle.cg_group.specs.State.{Sent}
use Rattle.cg_client.specs.Replica.{Held, Replica}
use Rattle.cg_model.specs.World.{Node, node_of, replica_of}
use Rattle.cg_model.specs.Chronicle.{Past, Attempt, Chronicle}
use Rattle.cg_model.specs.Fronts.{Front}
use Rattle.cg_model.specs.Looks.{greens_of, stood_of, past_of, on_disk, disk_held, is_in, left_count, ordered_in, attempt_of, attempt_at, top_of, installation}
use Rattle.cg_model.specs.Talk.{acts_in}
use Rattle.cg_model.specs.Levels.{line_at, count_in, reached_at}
use Rattle.cg_model.specs.FactsReplica.{IsCore}
use Rattle.cg_model.specs.FactsBooks.{ListsGrow}
use Rattle.cg_model.specs.Facts.{Invariant}
use Rattle.cg_model.specs.Played.{KeptBySmalls, MayBeMade}
use Rattle.cg_model.specs.Small.{Small, small_step}
use Rattle.cg_model.specs.Smalls.{may_make}
use Rattle.cg_model.specs.Noting.{played}
use Rattle.cg_agree_lemmas.specs.FrontFacts.{Front-trans, Front-length, Front-behind, Front-of_both, Front-map}
use Rattle.cg_disk_records.specs.Holds.{run_on}
use Rattle.cg_agree_lemmas.specs.SameAttempt.{SameAttempt, same-installation}
use Rattle.cg_agree_lemmas.specs.Reach.{acts-front}
use Rattle.cg_agree_lemmas.specs.ReachSteps.{goes_on-kept}
use Rattle.cg_agree_lemmas.specs.ReachWorld.{opened-at, opened-attempt, level-kept}
use Rattle.cg_agree.proofs.OneLine.{IsOnTop, level-on_top}
use Rattle.cg_agree_lemmas.specs.SpineKept.{start-line}
use Rattle.cg_agree.proofs.CopiesBooked.{greens-on_line, greatest-from}
use Rattle.cg_agree_lemmas.specs.RunFronts.{run_on-front}

-- ---- small steps

module _ (c : Chronicle) (s : Small) (i : Invariant c) (may : may_make c s ≡ true) (level : ℕ) (some : 0 < level) (within : level ≤ top_of c) where
  acts-go_on : (conf : ℕ) (xs : List (Sent Msg)) → ordered_in c conf ≡ xs → Front (acts_in (ordered_in c conf)) (acts_in (ordered_in (small_step c s) conf))
  acts-go_on conf [] e = subst (λ (list : List (Sent Msg)). Front (acts_in list) (acts_in (ordered_in (small_step c s) conf))) (sym e) tt
  acts-go_on conf (x ∷ xs) e =
      let many : length (ordered_in c conf) ≡ suc (length xs) = ap length e in
      acts-front (ordered_in c conf) (ordered_in (small_step c s) conf) (goes_on-kept conf c s i.net.phase_sound i.net.receipts_inside may (omega arith)).ordered

  -- the line of a level goes on
  pub line-goes_on : Front (line_at c level) (line_at (small_step c s) level)
  line-goes_on =
      let d = small_step c s in
      let a = attempt_at c level in
      let b = attempt_at d level in
      let same : SameAttempt a b = level-kept c s level i.attempt.levels_stand some within in
      let on = acts-go_on a.conf (ordered_in c a.conf) refl in
      subst (λ (xs : List Action). Front (line_at c level) (xs ++ acts_in (ordered_in d b.conf))) (sym (same-installation a b same))
      (subst (λ (n : ℕ). Front (line_at c level) (installation a ++ acts_in (ordered_in d n))) (sym same.conf)
      (Front-behind (installation a) (acts_in (ordered_in c a.conf)) (acts_in (ordered_in d a.conf)) on))

pub on_top-kept : (c : Chronicle) (s : Small) → Invariant c → may_make c s ≡ true → Invariant (small_step c s) → ListsGrow c (small_step c s) → (list : List Action) → IsOnTop c list → IsOnTop (small_step c s) list
on_top-kept c s i may j grow list on = at (top_of c) refl list on where
  d : Chronicle
  d = small_step c s

  at : (top : ℕ) → top_of c ≡ top → (list : List Action) → IsOnTop c list → IsOnTop d list
  at zero e [] on = record { front = tt; count = omega arith }
  at zero e (x ∷ list) on = absurd (subst (Front (x ∷ list)) (start-line c) (subst (λ (n : ℕ). Front (x ∷ list) (line_at c n)) e on.front))
  at (suc n) e list on =
      let level = top_of c in
      let within : level ≤ top_of d = Front-length c.levels d.levels grow.levels in
      let grown = grow.reached level (omega arith) in
      let count = on.count in
      level-on_top d level list j.attempt.levels_stand j.green.installed_count j.green.spine (omega arith) within
      (Front-trans list (line_at c level) (line_at d level) on.front (line-goes_on c s i may level (omega arith) (omega arith))) (omega arith)

pub on_top-along : KeptBySmalls → (smalls : List Small) (c : Chronicle) → Invariant c → MayBeMade c smalls → (list : List Action) → IsOnTop c list → IsOnTop (played c smalls) list
on_top-along kept [] c i may list on = on
on_top-along kept (s ∷ smalls) c i may list on =
    let next = kept c s i may.0 may.1 in
    on_top-along kept smalls (small_step c s) next.0 may.2 list (on_top-kept c s i may.0 next.0 next.1.lists_grow list on)

-- ---- what is on top is green somewhere

pub record IsGreenOf (c : Chronicle) (list : List Action) : Type 0 where
  pub by : ℕ
  pub front : Front list (greens_of c by)

pub green-there : (c : Chronicle) → Invariant c → (list : List Action) → IsOnTop c list → IsGreenOf c list
green-there c i [] on = record { by = 0; front = tt }
green-there c i (x ∷ list) on = at (top_of c) refl where
  held : (q : ℕ) → length (x ∷ list) ≤ length (greens_of c q) → IsGreenOf c (x ∷ list)
  held q le = record {
    by = q;
    front = Front-of_both (x ∷ list) (greens_of c q) (line_at c (top_of c)) on.front (greens-on_line c i.green.one_order i.replica.disk_behind i.net.hosted q) le;
  }

  -- a member has so many, or had as it left
  counted : (a : Attempt) (conf : ℕ) → attempt_of c conf ≡ Some a → (q : ℕ) → count_in c a q ≤ length (greens_of c q)
  counted a conf found q =
      cond_both (is_in c a.conf q) (length (greens_of c q)) (left_count a q) (λ n. n ≤ length (greens_of c q)) (λ y. omega arith)
      (λ n. subst (λ (o : Option Attempt). IfSome o (λ a. left_count a q ≤ length (greens_of c q))) found (i.attempt.installed_index.count conf q))

  at : (top : ℕ) → top_of c ≡ top → IsGreenOf c (x ∷ list)
  at zero e = absurd (subst (Front (x ∷ list)) (start-line c) (subst (λ (n : ℕ). Front (x ∷ list) (line_at c n)) e on.front))
  at (suc level) e =
      let o = opened-at c (top_of c) i.attempt.levels_stand (let some = e in omega arith) (omega arith) in
      let here = opened-attempt c (top_of c) o in
      let f = count_in c o.attempt in
      let reached : reached_at c (top_of c) ≡ greatest (map f o.attempt.installed) = ap (λ (a : Attempt). greatest (map (count_in c a) a.installed)) here in
      let within = on.count in
      elim (greatest-from f o.attempt.installed 0) [
        | inl none ↦ absurd (let few = within in omega arith)
        | inr by ↦ held by.by (let le = counted o.attempt o.conf o.found by.by in let same = by.is in let few = within in omega arith)
      ]

-- a replica's greens are each the next of its creator
pub greens-run : (c : Chronicle) → Invariant c → (q : ℕ) → run_on [] (names_of (greens_of c q)) ≡ true
greens-run c i q = at (replica_of c.world q) refl where
  begun : (o : Option Node) → option_map (λ s. on_disk s.life) o ≡ None → is_some o ≡ false
  begun None n = refl
  begun (Some s) n = absurd (let clash : Some (on_disk s.life) ≡ None = n in cc)

  nothing : (o : Option Past) → past_of c q ≡ o → is_some o ≡ false → greens_of c q ≡ []
  nothing None n e = ap (λ (o : Option Past). option_map_or (λ x. x.greens) o []) n
  nothing (Some x) n e = absurd (let clash : true ≡ false = e in cc)

  from_disk : (o : Option Held) → disk_held c.world q ≡ o → greens_of c q ≡ stood_of c q → run_on [] (names_of (greens_of c q)) ≡ true
  from_disk (Some h) e same = ap (λ xs. run_on [] (names_of xs)) same ∙ (subst (λ (o : Option Held). IfSome o (λ h. IsCore c h (stood_of c q))) e (i.replica.cores.disk q)).contiguous.greens
  from_disk None e same = ap (λ xs. run_on [] (names_of xs)) (nothing (past_of c q) refl (i.net.hosted.past q ∙ begun (node_of c.world q) e))

  at : (o : Option Replica) → replica_of c.world q ≡ o → run_on [] (names_of (greens_of c q)) ≡ true
  at None e = from_disk (disk_held c.world q) refl (i.replica.disk_behind.down q e)
  at (Some r) e = (subst (λ (o : Option Replica). IfSome o (λ r. IsCore c r.held (greens_of c q))) e (i.replica.cores.memory q)).contiguous.greens

pub on_top-runs : (c : Chronicle) → Invariant c → (list : List Action) → IsOnTop c list → run_on [] (names_of list) ≡ true
on_top-runs c i list on =
    let there = green-there c i list on in
    run_on-front [] (names_of list) (names_of (greens_of c there.by)) (Front-map (λ (a : Action). a.id) list (greens_of c there.by) there.front) (greens-run c i there.by)
