-- What a small step never takes back: greens go on, indexes and what was created don't fall, what was told and heard stays, attempts
-- and levels are never fewer.
use Rattle.std.proofs.Common.{◌≡◌, ℕ, ◌≤◌, ◌<◌, true, false, not, ◌&&◌, List, [], ◌∷◌, ◌++◌, drop, fold, length, Option, Some, None, IfSome, is_some, option_map, refl, sym, ap, ◌∙◌, subst, arith}
use Rattle.std.specs.Prelude.{◌==◌}
use Rattle.std.specs.Option.{option_map_or}
use Rattle.std.proofs.lemmas.Bool.{and_parts, not-true}
use Rattle.std.proofs.lemmas.List.Sums.{fold-append}
use Rattle.cg_base.specs.Sets.{has, is_within}
use Rattle.cg_base.specs.MemberLaws.{list_all_in}
use Rattle.cg_knowledge.specs.Summaries.{senders}
use Rattle.cg_wire.specs.declared.message.Msg.{Msg}
use Rattle.cg_wire.specs.declared.message.Msg.TheVariants.{Action as ActionMsg, State as StateMsg, GreenItem, RedItem, Cpc}
use Rattle.cg_group.specs.State.{Sent}
use Rattle.cg_client.specs.Replica.{Held, created}
use Rattle.cg_model.specs.World.{Node, node_of}
use Rattle.cg_model.specs.Attempts.{held_in}
use Rattle.cg_model.specs.Chronicle.{Told, Attempt, Chronicle}
use Rattle.cg_model.specs.Fronts.{Front, IsSomeWith}
use Rattle.cg_model.specs.Looks.{greens_of, core_of, told_in, members_in, ordered_in, attempt_of}
use Rattle.cg_model.specs.Talk.{Talk, no_talk, talk_of, hears, hears_from, is_full, may_say, is_legal}
use Rattle.cg_model.specs.FactsTalk.{whole_talk}
use Rattle.cg_model.specs.FactsBooks.{HasGrown}
use Rattle.cg_model.specs.Facts.{Invariant}
use Rattle.cg_model.specs.Played.{AtRest}
use Rattle.cg_model.specs.Small.{Small, small_step}
use Rattle.cg_model.specs.Smalls.{may_make}
use Rattle.cg_agree_lemmas.specs.AttemptsGrow.{attempts-grow}
use Rattle.cg_agree.proofs.CopiesBooked.{joiners-booked}
use Rattle.cg_agree.proofs.CoresMove.{CoreMove, Was, Begins, cores-move}
use Rattle.cg_agree_lemmas.specs.FrontFacts.{Front-append, split_by_Front}
use Rattle.cg_agree.proofs.GreensFront.{greens-go_on}
use Rattle.cg_agree.proofs.MadeOnceKept.{created-grows}
use Rattle.cg_agree.proofs.MoreThere.{begun-kept}
use Rattle.cg_agree_lemmas.specs.ReachSteps.{goes_on-kept}
use Rattle.cg_agree_lemmas.specs.ReachWorld.{levels-kept}
use Rattle.cg_agree_lemmas.specs.TalkCommute.{legal-append}
use Rattle.cg_agree_lemmas.specs.TalkEarly.{not_full}
use Rattle.cg_agree.proofs.TalkFactsKept.{talk_legal-kept}
use Rattle.cg_agree.proofs.ToldStays.{told-stays}

pub grows-greens : (c : Chronicle) (s : Small) → Invariant c → may_make c s ≡ true → AtRest c s → (p : ℕ) → Front (greens_of c p) (greens_of (small_step c s) p)
grows-greens c s i may rest p = greens-go_on c s i may rest p

pub grows-told : (c : Chronicle) (s : Small) → Invariant c → may_make c s ≡ true → (conf p : ℕ) → IfSome (told_in c conf p) (λ t. told_in (small_step c s) conf p ≡ Some t)
grows-told c s i may conf p = at (told_in c conf p) refl where
  at : (o : Option Told) → told_in c conf p ≡ o → IfSome o (λ t. told_in (small_step c s) conf p ≡ Some t)
  at None e = tt
  at (Some t) e = told-stays c s i may conf p t e

pub grows-attempts : (c : Chronicle) (s : Small) (conf : ℕ) → IfSome (attempt_of c conf) (λ a. IsSomeWith (attempt_of (small_step c s) conf) (HasGrown a))
grows-attempts c s conf = at (attempt_of c conf) refl where
  at : (o : Option Attempt) → attempt_of c conf ≡ o → IfSome o (λ a. IsSomeWith (attempt_of (small_step c s) conf) (HasGrown a))
  at None e = tt
  at (Some a) e =
      let is = (attempts-grow c s).still conf a e in
      let b = is.now in
      subst (λ (o : Option Attempt). IsSomeWith o (HasGrown a)) (sym is.found) (record {
        entered = list_all_in (has b.entered) a.entered (λ q y. is.grown.entered q y);
        installed = list_all_in (has b.installed) a.installed (λ q y. is.grown.installed q y);
        same = (is.grown.same.from, is.grown.same.set, is.grown.same.greens, is.grown.same.yellow, is.grown.same.reds);
      })

pub grows-levels : (c : Chronicle) (s : Small) → Front c.levels (small_step c s).levels
grows-levels c s = let more = levels-kept c s in subst (Front c.levels) (sym more.all) (Front-append c.levels more.more)

-- ---- what all have told

heard-next : (set : List ℕ) (conf : ℕ) (t : Talk) (from : ℕ) (m : Msg) → is_full set t ≡ true → may_say set conf t from m ≡ true → (hears_from t from m).heard ≡ t.heard
heard-next set conf t from (StateMsg s) full may =
    let outer = and_parts ((has set from && (s.id == from)) && (s.conf == conf)) (not (has (senders t.heard) from)) may in
    let member = (and_parts (has set from) (s.id == from) (and_parts (has set from && (s.id == from)) (s.conf == conf) outer.0).0).0 in
    absurd (let clash : true ≡ false = sym full ∙ not_full set t from member (not-true (has (senders t.heard) from) outer.1) in cc)
heard-next set conf t from (ActionMsg a) full may = refl
heard-next set conf t from (GreenItem at a) full may = refl
heard-next set conf t from (RedItem a) full may = refl
heard-next set conf t from (Cpc id at) full may = refl

pub heard-rest : (set : List ℕ) (conf : ℕ) (list : List (Sent Msg)) (t : Talk) → is_full set t ≡ true → is_legal set conf t list ≡ true → (fold hears t list).heard ≡ t.heard
heard-rest set conf [] t full legal = refl
heard-rest set conf (s ∷ list) t full legal =
    let parts = and_parts (may_say set conf t s.from s.message) (is_legal set conf (hears t s) list) legal in
    let next : (hears t s).heard ≡ t.heard = heard-next set conf t s.from s.message full parts.0 in
    heard-rest set conf list (hears t s) (ap (λ h. is_within set (senders h)) next ∙ full) parts.1 ∙ next

-- where something has a place, the summaries stay once all have told theirs
pub grows-heard : (c : Chronicle) (s : Small) → Invariant c → may_make c s ≡ true → (conf : ℕ) → 0 < length (ordered_in c conf) → is_full (members_in c conf) (whole_talk c conf) ≡ true →
    (whole_talk (small_step c s) conf).heard ≡ (whole_talk c conf).heard
grows-heard c s i may conf said full =
    let d = small_step c s in
    let on = goes_on-kept conf c s i.net.phase_sound i.net.receipts_inside may said in
    let xs = ordered_in c conf in
    let more = drop (length xs) (ordered_in d conf) in
    let split : ordered_in d conf ≡ xs ++ more = split_by_Front xs (ordered_in d conf) on.ordered in
    let legal : is_legal (members_in c conf) conf no_talk (xs ++ more) ≡ true =
    ap (is_legal (members_in c conf) conf no_talk) (sym split) ∙ ap (λ set. is_legal set conf no_talk (ordered_in d conf)) (sym on.members) ∙ (talk_legal-kept c s i may).ordered conf in
    let parts = and_parts (is_legal (members_in c conf) conf no_talk xs) (is_legal (members_in c conf) conf (whole_talk c conf) more) (sym (legal-append (members_in c conf) conf xs more no_talk) ∙ legal) in
    ap (λ list. (talk_of list).heard) split ∙ ap (λ (t : Talk). t.heard) (fold-append hears no_talk xs more) ∙ heard-rest (members_in c conf) conf more (whole_talk c conf) full parts.1

-- ---- what is held

pub grows-index : (c : Chronicle) (s : Small) → Invariant c → may_make c s ≡ true → AtRest c s → (p : ℕ) →
    IfSome (core_of c p) (λ h. IsSomeWith (core_of (small_step c s) p) (λ k. (h.prim.index ≤ k.prim.index) × (created h ≤ created k)))
grows-index c s i may rest p = at (core_of c p) refl where
  d : Chronicle
  d = small_step c s

  begun : (o : Option Node) (h : Held) → option_map (λ s. held_in s.life) o ≡ Some h → is_some o ≡ true
  begun None h e = absurd (let clash : None ≡ Some h = e in cc)
  begun (Some x) h e = refl

  moved : (h k : Held) → core_of c p ≡ Some h → CoreMove c p k → h.prim.index ≤ k.prim.index
  moved h k e (Begins none) = absurd (let clash : None ≡ Some h = sym none ∙ e in cc)
  moved h k e (Was old found index) =
      let same : Some h ≡ Some old = sym e ∙ found in
      let at : h.prim.index ≡ old.prim.index = ap (λ (o : Option Held). option_map_or (λ x. x.prim.index) o 0) same in
      omega (arith, at, index)

  with : (h : Held) → core_of c p ≡ Some h → (o : Option Node) → node_of d.world p ≡ o → is_some o ≡ true → IsSomeWith (core_of d p) (λ k. (h.prim.index ≤ k.prim.index) × (created h ≤ created k))
  with h e None there some = absurd (let clash : false ≡ true = some in cc)
  with h e (Some x) there some =
      let k = held_in x.life in
      let now : core_of d p ≡ Some k = ap (option_map (λ (x : Node). held_in x.life)) there in
      subst (λ (o : Option Held). IsSomeWith o (λ k. (h.prim.index ≤ k.prim.index) × (created h ≤ created k))) (sym now) (
        moved h k e ((cores-move c s i may rest).move p k now),
        created-grows c s i (joiners-booked c i i.replica.origins.unbegun) may rest p h k e now,
      )

  at : (o : Option Held) → core_of c p ≡ o → IfSome o (λ h. IsSomeWith (core_of d p) (λ k. (h.prim.index ≤ k.prim.index) × (created h ≤ created k)))
  at None e = tt
  at (Some h) e = with h e (node_of d.world p) refl (begun-kept c s i.net.hosted may p (begun (node_of c.world p) h e))
