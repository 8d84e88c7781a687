-- The parts of an attempt that is made in a small step, and with them what an attempt is.
use Rattle.std.proofs.Common.{◌≡◌, ℕ, true, List, [], ◌∷◌, Option, Some, None, IfSome, refl, sym, ap, ◌∙◌, subst}
use Rattle.std.specs.Prelude.{option_and_then}
use Rattle.std.proofs.lemmas.Bool.{and_parts}
use Rattle.std.proofs.lemmas.Option.{same_Some}
use Rattle.cg_base.specs.declared.weighted.Weighted.{Weighted}
use Rattle.cg_base.specs.Sets.{has}
use Rattle.cg_base.specs.Text.{is_nil}
use Rattle.cg_base.specs.Weights.{ids}
use Rattle.cg_action.specs.declared.action.Action.{Action}
use Rattle.cg_knowledge.specs.declared.summary.Summary.{Summary}
use Rattle.cg_knowledge.specs.Summaries.{senders}
use Rattle.cg_knowledge.specs.Primary.{newest_index, known_primary}
use Rattle.cg_client.specs.Replica.{Replica}
use Rattle.cg_model.specs.FactsReplica.{is_exchanging}
use Rattle.cg_model.specs.World.{replica_of}
use Rattle.cg_model.specs.Chronicle.{Told, Attempt, Chronicle, no_chronicle}
use Rattle.cg_model.specs.Fronts.{IsSomeWith}
use Rattle.cg_model.specs.Looks.{greens_of, told_in, ordered_in, attempt_of}
use Rattle.cg_model.specs.FactsAttempts.{AreParts, AttemptShape}
use Rattle.cg_model.specs.FactsExchange.{best_told}
use Rattle.cg_model.specs.FactsTalk.{whole_talk, TalkLegal}
use Rattle.cg_model.specs.Facts.{Invariant}
use Rattle.cg_model.specs.Small.{Small, Starts, Makes, Enters, Orders, Receives, Hands, Leaves, Asks, Settles, Commits, Crashes, Recovers, Copies, Joins, start, small_step}
use Rattle.cg_model.specs.Smalls.{may_make, is_set}
use Rattle.cg_agree.proofs.AttemptSteps.{IsHanded, attempt-step}
use Rattle.cg_agree.proofs.AttemptsCame.{Begins, Came, Stayed, WasLeft, WasEntered, WasInstalled, WasMade, came}
use Rattle.cg_agree.proofs.BegunKept.{nothing-before}
use Rattle.cg_agree.proofs.BuiltThere.{built}
use Rattle.cg_agree.proofs.DeadKept.{said-by}
use Rattle.cg_agree.proofs.ExchangeBehind.{up-now, told-now}
use Rattle.cg_agree_lemmas.specs.ExchangeHands.{best-same}
use Rattle.cg_agree_lemmas.specs.HandsNow.{hands-now, new, running-now}
use Rattle.cg_agree_lemmas.specs.Knowledge.{some-sender, known-of}
use Rattle.cg_agree_lemmas.specs.EndCovers.{OfEach}
use Rattle.cg_agree.proofs.LevelsKept.{start-kept}
use Rattle.cg_agree_lemmas.specs.PartsNamed.{PartsNamed, parts-named}
use Rattle.cg_agree_lemmas.specs.PlanEnd.{AtPlanEnd}
use Rattle.cg_agree.proofs.ShapeKept.{MadeParts, same-end, shape-kept}
use Rattle.cg_agree.proofs.ToldStays.{told-stays}
use Rattle.cg_agree_lemmas.specs.TurnKinds.{HasAttempted}
use Rattle.cg_agree_lemmas.specs.LinesFollow.{NotStart}

each-true : (heard : List Summary) → OfEach (λ s. Unit {0}) heard
each-true [] = tt
each-true (s ∷ heard) = (tt, each-true heard)

-- the index of the known primary component is the newest
pub known-index : (heard : List Summary) (p : ℕ) → has (senders heard) p ≡ true → (known_primary heard).index ≡ newest_index heard
known-index heard p sent = let is = known-of (λ s. Unit {0}) heard (some-sender heard p sent) (each-true heard) in ap (λ x. x.index) is.prim ∙ is.index

-- ---- a member that begins an attempt

-- who it is, and what it has built
pub record HasBegun (c d : Chronicle) (p conf : ℕ) (heard : List Summary) (new : Replica) : Type 0 where
  pub best : Told
  pub most : best_told d conf heard ≡ Some best
  pub greens : greens_of d p ≡ best.greens
  pub named : PartsNamed new.held heard

pub has-begun : (c d : Chronicle) (p conf : ℕ) (heard : List Summary) (r new' : Replica) (greens : List Action) → Invariant c → Begins c p conf heard r new' → replica_of d.world p ≡ Some new' →
    IsHanded c d p greens → HasBegun c d p conf heard new'
has-begun c d p conf heard r new' greens i begins moved handed =
    let e = small_step c (Hands p) in
    let n = hands-now c p i handed.may in
    let was : r ≡ n.replica = same_Some r n.replica (sym begins.up ∙ running-now c p i n) in
    let now : new' ≡ new c p i n = same_Some new' (new c p i n) (sym moved ∙ ap (λ (x : Chronicle). replica_of x.world p) handed.step ∙ up-now c p i handed.may n) in
    let exchanging : is_exchanging n.replica.state ≡ true = subst (λ (o : Option Replica). IfSome o (λ r. is_exchanging r.state ≡ true)) (running-now c p i n) handed.exchanging in
    let end : AtPlanEnd c p n.replica conf heard = subst (λ (x : Replica). AtPlanEnd c p x conf heard) was begins.end in
    let begun : HasAttempted conf heard n.replica (new c p i n) = subst (λ (x : Replica). HasAttempted conf heard x (new c p i n)) was (subst (HasAttempted conf heard r) now begins.begun) in
    let b = built c p i handed.may n exchanging conf heard end begun in
    let named = parts-named e.start (new c p i n).held (greens_of e p) heard b.best.summary b.oneself b.cut b.red b.yellow b.most in
    let told : best_told c conf heard ≡ Some b.best = ap (λ (o : Option Summary). option_and_then (λ s. told_in c conf s.id) o) b.most ∙ b.found in
    record {
      best = b.best;
      most = ap (λ (x : Chronicle). best_told x conf heard) handed.step ∙ best-same c e conf heard (told-now c p i handed.may n) ∙ told;
      greens = ap (λ (x : Chronicle). greens_of x p) handed.step ∙ b.greens;
      named = subst (λ (x : Replica). PartsNamed x.held heard) (sym now) named;
    }

-- ---- the parts of an attempt that is made

pub made-parts : (c : Chronicle) (s : Small) → Invariant c → may_make c s ≡ true → TalkLegal (small_step c s) → MadeParts c s
made-parts c s i may legal conf b none now = at (came c (small_step c s) conf b (attempt-step c s i may) now) where
  there : (a : Attempt) → attempt_of c conf ≡ Some a → AreParts (small_step c s) (whole_talk (small_step c s) conf).heard b
  there a found = absurd (let clash : None ≡ Some a = sym none ∙ found in cc)

  at : Came c (small_step c s) conf b → AreParts (small_step c s) (whole_talk (small_step c s) conf).heard b
  at (Stayed found) = there b found
  at (WasLeft a found p n here is low) = there a found
  at (WasEntered a found p heard r new' begins is moved) = there a found
  at (WasInstalled p r new' ins done here is levels core moved) = there ins.a (ap (attempt_of c) here ∙ ins.found)
  at (WasMade none' p heard r new' begins greens is moved handed) =
      let d = small_step c s in
      let end = same-end c s i may legal conf (said-by (ordered_in c conf) p (ap (λ l. has (senders l) p) begins.end.whole ∙ begins.end.listed)) begins.end.ended in
      let same : (whole_talk d conf).heard ≡ heard = end.heard ∙ begins.end.whole in
      let begun = has-begun c d p conf heard r new' greens i begins moved handed in
      subst (λ l. AreParts d l b) (sym same)
      (subst (AreParts d heard) (sym is) (record {
        from = known-index heard p begins.end.listed;
        set = refl;
        greens = subst (λ (o : Option Told). IsSomeWith o (λ best. greens ≡ best.greens)) (sym begun.most) (handed.all ∙ begun.greens);
        yellow = begun.named.yellow;
        reds = begun.named.reds;
      }))

-- of a step that isn't the start
as-kept : (c : Chronicle) (s : Small) → Invariant c → may_make c s ≡ true → TalkLegal (small_step c s) → NotStart s → AttemptShape (small_step c s)
as-kept c s i may legal later = shape-kept c s i may legal (told-stays c s i may) (start-kept c s later) (made-parts c s i may legal)

-- at the start there is no attempt
starts-shape : (c : Chronicle) (set : List Weighted) → c ≡ no_chronicle → AttemptShape (start c set)
starts-shape c set is = subst (λ (x : Chronicle). AttemptShape (start x set)) (sym is) (λ conf. tt)

-- Each small step keeps what an attempt is.
pub attempt_shape-kept : (c : Chronicle) (s : Small) → Invariant c → may_make c s ≡ true → TalkLegal (small_step c s) → AttemptShape (small_step c s)
unfolding small_step may_make
attempt_shape-kept c (Starts set) i may legal = starts-shape c set (nothing-before c i.net.hosted (and_parts (is_nil c.world.nodes) (is_set (ids set)) may).0)
attempt_shape-kept c (Makes set) i may legal = as-kept c (Makes set) i may legal tt
attempt_shape-kept c (Enters p) i may legal = as-kept c (Enters p) i may legal tt
attempt_shape-kept c (Orders p) i may legal = as-kept c (Orders p) i may legal tt
attempt_shape-kept c (Receives p place) i may legal = as-kept c (Receives p place) i may legal tt
attempt_shape-kept c (Hands p) i may legal = as-kept c (Hands p) i may legal tt
attempt_shape-kept c (Leaves p set own places) i may legal = as-kept c (Leaves p set own places) i may legal tt
attempt_shape-kept c (Asks p kind) i may legal = as-kept c (Asks p kind) i may legal tt
attempt_shape-kept c (Settles p) i may legal = as-kept c (Settles p) i may legal tt
attempt_shape-kept c (Commits p) i may legal = as-kept c (Commits p) i may legal tt
attempt_shape-kept c (Crashes p) i may legal = as-kept c (Crashes p) i may legal tt
attempt_shape-kept c (Recovers p) i may legal = as-kept c (Recovers p) i may legal tt
attempt_shape-kept c (Copies p joiner) i may legal = as-kept c (Copies p joiner) i may legal tt
attempt_shape-kept c (Joins joiner) i may legal = as-kept c (Joins joiner) i may legal tt
