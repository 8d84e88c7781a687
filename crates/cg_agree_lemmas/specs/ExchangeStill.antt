-- What a member holds in an exchange stays so where its replica, its greens and what was handed to it are as before.
use Rattle.std.proofs.Common.{◌≡◌, ℕ, Bool, true, false, List, take, max, filter, Option, Some, None, IfSome, refl, sym, ap, ap₂, ◌∙◌, subst, inl, inr, eqb-true, eq-eqb, option_and_then}
use Rattle.std.specs.Prelude.{◌==◌, nat_lt}
use Rattle.std.proofs.lemmas.Bool.{cases_Bool, cond-true, cond-false}
use Rattle.cg_base.specs.Cuts.{index_in}
use Rattle.cg_base.specs.Sets.{has}
use Rattle.cg_base.specs.Choice.{Either}
use Rattle.cg_action.specs.declared.action.Action.{Action}
use Rattle.cg_records.specs.declared.yellow.Yellow.{Yellow}
use Rattle.cg_knowledge.specs.declared.summary.Summary.{Summary}
use Rattle.cg_knowledge.specs.Summaries.{gone, most_updated}
use Rattle.cg_wire.specs.declared.message.Msg.{Msg}
use Rattle.cg_group.specs.declared.phase.Phase.{Phase}
use Rattle.cg_group.specs.State.{Configuration, phase_of, delivered_to}
use Rattle.cg_client.specs.Replica.{Held, State, RegPrim, TransPrim, ExchangeStates, ExchangeActions, Construct, No, Un, NonPrim, Left, Replica}
use Rattle.cg_model.specs.World.{replica_of}
use Rattle.cg_model.specs.Chronicle.{Told, Chronicle}
use Rattle.cg_model.specs.Fronts.{IsSomeWith}
use Rattle.cg_model.specs.Looks.{greens_of, told_in, is_regular_at, is_regular_in}
use Rattle.cg_model.specs.Talk.{Talk, talk_of}
use Rattle.cg_model.specs.FactsTalk.{handed_talk}
use Rattle.cg_model.specs.FactsExchange.{HoldsStill, IsUnmoved, red_behind, IsGoingOn, HasTakenOver, best_told, IsInExchange, ExchangeProgress}
use Rattle.cg_agree_lemmas.specs.TurnValues.{SameValues, same-values}
use Rattle.cg_agree_lemmas.specs.ModeHeld.{SameLists}
use Rattle.cg_agree_lemmas.specs.OneStands.{Stands}

-- what a member holds in a configuration
abbrev pub ProgressAt : Chronicle → ℕ → ℕ → Type 0
ProgressAt c conf p = IfSome (replica_of c.world p) (λ r. IsSomeWith (told_in c conf p) (λ t. IsInExchange c conf t r.held (greens_of c p) r.state))

-- what was told stays
abbrev pub ToldStays : Chronicle → Chronicle → Type 0
ToldStays c d = (conf q : ℕ) (t : Told) → told_in c conf q ≡ Some t → told_in d conf q ≡ Some t

-- a replica that is up still is in its state, and holds the same
abbrev pub StaysAs : Option Replica → Option Replica → Type 0
StaysAs o None = Unit {0}
StaysAs None (Some new) = ⊥
StaysAs (Some r) (Some new) = (new.state ≡ r.state) × SameValues r.held new.held × SameLists r.held new.held

pub stays-itself : (o : Option Replica) → StaysAs o o
stays-itself None = tt
stays-itself (Some r) = (refl, same-values r.held, record { reds = refl; yellow = refl; green_cut = refl; red_cut = refl })

-- ---- what is held

pub some-still : (o after : Option Told) (P Q : Told → Type 0) → ((t : Told) → o ≡ Some t → after ≡ Some t) → ((t : Told) → P t → Q t) → IsSomeWith o P → IsSomeWith after Q
some-still None after P Q stays more is = absurd is
some-still (Some t) after P Q stays more is = subst (λ o. IsSomeWith o Q) (sym (stays t refl)) (more t is)

pub best-still : (c d : Chronicle) (conf : ℕ) (heard : List Summary) → ToldStays c d → (P Q : Told → Type 0) → ((t : Told) → P t → Q t) → IsSomeWith (best_told c conf heard) P → IsSomeWith (best_told d conf heard) Q
best-still c d conf heard stays P Q more is = at (most_updated heard) is where
  at : (o : Option Summary) → IsSomeWith (option_and_then (λ s. told_in c conf s.id) o) P → IsSomeWith (option_and_then (λ s. told_in d conf s.id) o) Q
  at None is = absurd is
  at (Some s) is = some-still (told_in c conf s.id) (told_in d conf s.id) P Q (λ t e. stays conf s.id t e) more is

either-still : (b b' : Bool) (A A' B B' : Type 0) → b' ≡ b → (A → A') → (B → B') → Either b A B → Either b' A' B'
either-still true b' A A' B B' e f g is = subst (λ x. Either x A' B') (sym e) (f is)
either-still false b' A A' B B' e f g is = subst (λ x. Either x A' B') (sym e) (g is)

pub holds-still : (t : Told) (old new : Held) → SameValues old new → HoldsStill t old → HoldsStill t new
holds-still t old new values is = record {
  prim = values.prim ∙ is.prim;
  attempt_index = values.attempt_index ∙ is.attempt_index;
  vulnerable = values.vulnerable ∙ is.vulnerable;
  yellow_valid = values.yellow_valid ∙ is.yellow_valid;
}

unmoved-still : (t : Told) (old new : Held) (all : List Action) → SameValues old new → SameLists old new → IsUnmoved t old all → IsUnmoved t new all
unmoved-still t old new all values lists is = record {
  holds = holds-still t old new values is.holds;
  yellow = lists.yellow ∙ is.yellow;
  greens = is.greens;
  red_cut = lists.red_cut ∙ is.red_cut;
}

going-still : (heard : List Summary) (n : ℕ) (best mine : Told) (old new : Held) (all : List Action) → SameValues old new → SameLists old new → IsGoingOn heard n best mine old all → IsGoingOn heard n best mine new all
going-still heard n best mine old new all values lists is = record {
  holds = holds-still mine old new values is.holds;
  greens = is.greens;
  red = λ creator. ap (λ cut. index_in cut creator) lists.red_cut ∙ is.red creator
      ∙ ap (λ cut. max (index_in mine.summary.red_cut creator) (max (index_in cut creator) (red_behind heard n creator))) (sym lists.green_cut);
  yellow = lists.yellow ∙ is.yellow ∙ ap (λ cut. filter (λ id. nat_lt (index_in cut id.creator) id.index) mine.summary.yellow.list) (sym lists.green_cut);
}

over-still : (heard : List Summary) (best mine : Told) (old new : Held) (all : List Action) → SameValues old new → SameLists old new → HasTakenOver heard best mine old all → HasTakenOver heard best mine new all
over-still heard best mine old new all values lists is = record {
  greens = is.greens;
  prim = values.prim ∙ is.prim;
  yellow = ap₂ (λ b xs. (let y : Yellow = record { valid = b; list = xs } in y)) values.yellow_valid lists.yellow ∙ is.yellow;
  vulnerable = values.vulnerable ∙ is.vulnerable;
}

-- whatever the state
pub exchange-still : (c d : Chronicle) (conf : ℕ) (t : Told) (old new : Held) (all : List Action) (state : State) → ToldStays c d → SameValues old new → SameLists old new →
    handed_talk d conf old.id ≡ handed_talk c conf old.id → IsInExchange c conf t old all state → IsInExchange d conf t new all state
exchange-still c d conf t old new all (ExchangeStates at set heard) stays values lists handed is = unmoved-still t old new all values lists is
exchange-still c d conf t old new all Left stays values lists handed is = unmoved-still t old new all values lists is
exchange-still c d conf t old new all (ExchangeActions at heard n) stays values lists handed is =
    either-still (has (gone heard) old.id) (has (gone heard) new.id)
    (IsUnmoved t old all) (IsUnmoved t new all) (IsSomeWith (best_told c conf heard) (λ best. IsGoingOn heard n best t old all)) (IsSomeWith (best_told d conf heard) (λ best. IsGoingOn heard n best t new all))
    (ap (has (gone heard)) values.id) (unmoved-still t old new all values lists)
    (best-still c d conf heard stays (λ best. IsGoingOn heard n best t old all) (λ best. IsGoingOn heard n best t new all) (λ best. going-still heard n best t old new all values lists)) is
exchange-still c d conf t old new all (NonPrim regular) stays values lists handed is =
    let heard = (handed_talk c conf old.id).heard in
    let e : (handed_talk d conf new.id).heard ≡ heard = ap (λ n. (handed_talk d conf n).heard) values.id ∙ ap (λ (x : Talk). x.heard) handed in
    subst (λ (l : List Summary). IsSomeWith (best_told d conf l) (λ best. HasTakenOver l best t new all)) (sym e)
    (best-still c d conf heard stays (λ best. HasTakenOver heard best t old all) (λ best. HasTakenOver heard best t new all) (λ best. over-still heard best t old new all values lists) is)
exchange-still c d conf t old new all RegPrim stays values lists handed is = tt
exchange-still c d conf t old new all TransPrim stays values lists handed is = tt
exchange-still c d conf t old new all (Construct at heard) stays values lists handed is = tt
exchange-still c d conf t old new all (No at heard) stays values lists handed is = tt
exchange-still c d conf t old new all Un stays values lists handed is = tt

-- ---- a member, and all of them

-- each replica has its name
abbrev pub HaveNames : Chronicle → Type 0
HaveNames c = (q : ℕ) → IfSome (replica_of c.world q) (λ r. r.held.id ≡ q)

pub progress-still : (c d : Chronicle) (conf q : ℕ) → ToldStays c d → HaveNames c → handed_talk d conf q ≡ handed_talk c conf q → StaysAs (replica_of c.world q) (replica_of d.world q) →
    greens_of d q ≡ greens_of c q → ProgressAt c conf q → ProgressAt d conf q
progress-still c d conf q stays names handed same greens is = at (replica_of c.world q) (replica_of d.world q) (names q) same is where
  at : (o after : Option Replica) → IfSome o (λ r. r.held.id ≡ q) → StaysAs o after → IfSome o (λ r. IsSomeWith (told_in c conf q) (λ t. IsInExchange c conf t r.held (greens_of c q) r.state)) →
      IfSome after (λ r. IsSomeWith (told_in d conf q) (λ t. IsInExchange d conf t r.held (greens_of d q) r.state))
  at None None name same is = tt
  at (Some r) None name same is = tt
  at None (Some new) name same is = absurd same
  at (Some r) (Some new) name same is =
      some-still (told_in c conf q) (told_in d conf q) (λ t. IsInExchange c conf t r.held (greens_of c q) r.state) (λ t. IsInExchange d conf t new.held (greens_of d q) new.state) (λ t e. stays conf q t e)
      (λ t here. subst (λ xs. IsInExchange d conf t new.held xs new.state) (sym greens)
      (subst (λ (s : State). IsInExchange d conf t new.held (greens_of c q) s) (sym same.0)
      (exchange-still c d conf t r.held new.held (greens_of c q) r.state stays same.1 same.2 (subst (λ n. handed_talk d conf n ≡ handed_talk c conf n) (sym name) handed) here))) is

-- one replica stands otherwise, and all others are as before
pub record OneMoves (c d : Chronicle) (p : ℕ) (now : Phase) (n : ℕ) (up : Bool) : Type 0 where
  pub stands : Stands c.world.group d.world.group p now n up
  pub told : ToldStays c d
  pub replica : (q : ℕ) → (q == p) ≡ false → replica_of d.world q ≡ replica_of c.world q
  pub greens : (q : ℕ) → (q == p) ≡ false → greens_of d q ≡ greens_of c q

pub one-kept : (c d : Chronicle) (p : ℕ) (now : Phase) (n : ℕ) (up : Bool) → OneMoves c d p now n up → HaveNames c → ((conf : ℕ) → is_regular_at conf now ≡ true → ProgressAt d conf p) →
    ExchangeProgress c → ExchangeProgress d
one-kept c d p now n up moves names own old conf q regular = elim (cases_Bool (q == p)) [
  | inl y ↦
      let is = eqb-true q p y in
      let phase : phase_of d.world.group p ≡ now = moves.stands.phase p ∙ cond-true (p == p) now (phase_of c.world.group p) (eq-eqb p p refl) in
      let here : is_regular_in d conf p ≡ true = subst (λ x. is_regular_in d conf x ≡ true) is regular in
      subst (ProgressAt d conf) (sym is) (own conf (ap (is_regular_at conf) (sym phase) ∙ here))
  | inr other ↦
      let phase : phase_of d.world.group q ≡ phase_of c.world.group q = moves.stands.phase q ∙ cond-false (q == p) now (phase_of c.world.group q) other in
      let delivered : delivered_to d.world.group q ≡ delivered_to c.world.group q = moves.stands.delivered q ∙ cond-false (q == p) n (delivered_to c.world.group q) other in
      progress-still c d conf q moves.told names
      (ap₂ (λ n xs. talk_of (take n xs)) delivered (ap (λ (x : Configuration Msg). x.ordered) (moves.stands.conf conf)))
      (subst (StaysAs (replica_of c.world q)) (sym (moves.replica q other)) (stays-itself (replica_of c.world q)))
      (moves.greens q other) (old conf q (ap (is_regular_at conf) (sym phase) ∙ regular))
]

-- no replica stands otherwise
pub all-kept : (c d : Chronicle) → ToldStays c d → HaveNames c → ((q : ℕ) → phase_of d.world.group q ≡ phase_of c.world.group q) →
    ((conf q : ℕ) → is_regular_in c conf q ≡ true → handed_talk d conf q ≡ handed_talk c conf q) → ((q : ℕ) → replica_of d.world q ≡ replica_of c.world q) → ((q : ℕ) → greens_of d q ≡ greens_of c q) →
    ExchangeProgress c → ExchangeProgress d
all-kept c d told names phase handed replica greens old conf q regular =
    let was : is_regular_in c conf q ≡ true = ap (is_regular_at conf) (sym (phase q)) ∙ regular in
    progress-still c d conf q told names (handed conf q was) (subst (StaysAs (replica_of c.world q)) (sym (replica q)) (stays-itself (replica_of c.world q))) (greens q) (old conf q was)
