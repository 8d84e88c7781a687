-- Greens that were told stand on the newest level's line, as the facts say that hold behind a small step.
use Rattle.std.proofs.Common.{◌≡◌, ℕ, ◌≤◌, ◌<◌, true, false, ◌&&◌, [], length, Option, Some, None, IfSome, is_some, refl, ap, subst, arith, eqb-true, option_map}
use Rattle.std.specs.Prelude.{◌==◌}
use Rattle.std.proofs.lemmas.Bool.{and_parts}
use Rattle.cg_base.specs.FindLaws.{found_passes}
use Rattle.cg_action.specs.declared.action.Action.{Action}
use Rattle.cg_queue.specs.Queue.{names_of}
use Rattle.cg_client.specs.Replica.{Held}
use Rattle.cg_model.specs.World.{Node, node_of, has_begun}
use Rattle.cg_model.specs.Chronicle.{Told, Chronicle}
use Rattle.cg_model.specs.Looks.{greens_of, told_in, core_of, top_of}
use Rattle.cg_model.specs.Fronts.{Front}
use Rattle.cg_model.specs.Attempts.{held_in}
use Rattle.cg_model.specs.Levels.{line_at, reach_at, reached_at}
use Rattle.cg_model.specs.Facts.{Invariant}
use Rattle.cg_model.specs.FactsNet.{NetFacts}
use Rattle.cg_model.specs.FactsTalk.{TalkFacts}
use Rattle.cg_model.specs.FactsReplica.{IsCore, ReplicaFacts}
use Rattle.cg_model.specs.FactsExchange.{IsSummary, IsOutdone, KnowsLevels, ExchangeFacts}
use Rattle.cg_model.specs.FactsAttempts.{AttemptFacts}
use Rattle.cg_model.specs.FactsGreens.{InstalledCount, OneOrder}
use Rattle.cg_model.specs.Played.{AtRest}
use Rattle.cg_model.specs.Small.{Small, small_step}
use Rattle.cg_model.specs.Smalls.{may_make}
use Rattle.cg_agree.proofs.FactsKept.{replica-now, exchange-now, attempt-now}
use Rattle.cg_agree_lemmas.specs.FrontFacts.{Front-trans, Front-of_both, Front-map}
use Rattle.cg_agree.proofs.NetFactsKept.{net-kept}
use Rattle.cg_agree.proofs.OneLine.{reached-front}
use Rattle.cg_disk_records.specs.Holds.{run_on}
use Rattle.cg_agree.proofs.TalkFactsKept.{talk-kept}
use Rattle.cg_agree.proofs.ToldBeside.{core-now}
use Rattle.cg_agree_lemmas.specs.RunFronts.{run_on-front}

-- what holds behind a small step but for the facts about greens, with the two of these that are needed
pub record Behind (c : Chronicle) : Type 0 where
  pub net : NetFacts c
  pub talk : TalkFacts c
  pub replica : ReplicaFacts c
  pub exchange : ExchangeFacts c
  pub attempt : AttemptFacts c
  pub one_order : OneOrder c
  pub counts : InstalledCount c

pub behind-now : (c : Chronicle) (s : Small) → Invariant c → may_make c s ≡ true → AtRest c s → OneOrder (small_step c s) → InstalledCount (small_step c s) → Behind (small_step c s)
behind-now c s i may rest order counts = record {
  net = net-kept c s i may;
  talk = talk-kept c s i may;
  replica = replica-now c s i may rest order;
  exchange = exchange-now c s i may rest;
  attempt = attempt-now c s i may rest;
  one_order = order;
  counts = counts;
}

-- so it does of a chronicle with all facts
pub behind-of : (c : Chronicle) → Invariant c → Behind c
behind-of c i = record {
  net = i.net;
  talk = i.talk;
  replica = i.replica;
  exchange = i.exchange;
  attempt = i.attempt;
  one_order = i.green.one_order;
  counts = i.green.installed_count;
}

-- the greens of who has begun can be green at the newest level
pub begun-line : (c : Chronicle) → Behind c → (q : ℕ) → has_begun c.world q ≡ true → Front (greens_of c q) (line_at c (top_of c)) × (length (greens_of c q) ≤ reached_at c (top_of c))
begun-line c f q begun = (core-now c (λ h greens. Front greens (line_at c (top_of c)) × (length greens ≤ reached_at c (top_of c))) f.one_order f.replica.disk_behind q begun).1

pub begun-reach : (c : Chronicle) → Behind c → (q : ℕ) → has_begun c.world q ≡ true → 0 < top_of c → Front (greens_of c q) (reach_at c (top_of c))
begun-reach c f q begun some =
    let line = begun-line c f q begun in
    reached-front c (top_of c) (greens_of c q) f.attempt.levels_stand f.counts some (omega arith) line.0 line.1

module _ (c : Chronicle) (f : Behind c) (conf : ℕ) where
  -- who has told something has begun
  pub told-begun : (q : ℕ) (t : Told) → told_in c conf q ≡ Some t → has_begun c.world q ≡ true
  told-begun q t e = f.net.members_begun.member conf q (f.net.past_left.member conf q (ap is_some e))

  named : (q : ℕ) (t : Told) → told_in c conf q ≡ Some t → (t.summary.conf ≡ conf) × (t.summary.id ≡ q)
  named q t e =
      let parts = and_parts (t.summary.conf == conf) (t.summary.id == q) (found_passes (λ (t : Told). (t.summary.conf == conf) && (t.summary.id == q)) c.told t e) in
      (eqb-true t.summary.conf conf parts.0, eqb-true t.summary.id q parts.1)

  pub told-conf : (q : ℕ) (t : Told) → told_in c conf q ≡ Some t → t.summary.conf ≡ conf
  told-conf q t e = (named q t e).0

  pub told-id : (q : ℕ) (t : Told) → told_in c conf q ≡ Some t → t.summary.id ≡ q
  told-id q t e = (named q t e).1

  pub told-fits : (q : ℕ) (t : Told) → told_in c conf q ≡ Some t → IsSummary c t
  told-fits q t e = subst (λ (o : Option Told). IfSome o (IsSummary c)) e (f.exchange.summary_of_sender.fits conf q)

  pub told-levels : (q : ℕ) (t : Told) → told_in c conf q ≡ Some t → KnowsLevels c t
  told-levels q t e = subst (λ (o : Option Told). IfSome o (KnowsLevels c)) e (f.exchange.summary_of_sender.levels conf q)

  -- the greens of what was told are a front of all greens of the sender
  pub told-greens : (q : ℕ) (t : Told) → told_in c conf q ≡ Some t → Front t.greens (greens_of c q)
  told-greens q t e = at (node_of c.world q) refl (told-begun q t e) where
    at : (o : Option Node) → node_of c.world q ≡ o → is_some o ≡ true → Front t.greens (greens_of c q)
    at None none begun = absurd (let clash : false ≡ true = begun in cc)
    at (Some s) some begun =
        let core : core_of c q ≡ Some (held_in s.life) = ap (option_map (λ (s : Node). held_in s.life)) some in
        let all = subst (λ (o : Option Told). IfSome o (λ t. IfSome (core_of c q) (IsOutdone c t))) e (f.exchange.summary_of_sender.outdone conf q) in
        let one : IsOutdone c t (held_in s.life) = subst (λ (o : Option Held). IfSome o (IsOutdone c t)) core all in
        subst (λ x. Front t.greens (greens_of c x)) (told-id q t e) one.greens

  -- each of the greens that were told is the next of its creator
  pub told-run : (q : ℕ) (t : Told) → told_in c conf q ≡ Some t → run_on [] (names_of t.greens) ≡ true
  told-run q t e =
      let core = core-now c (IsCore c) f.replica.cores f.replica.disk_behind q (told-begun q t e) in
      run_on-front [] (names_of t.greens) (names_of (greens_of c q)) (Front-map (λ (a : Action). a.id) t.greens (greens_of c q) (told-greens q t e)) core.1.contiguous.greens

  -- they are a front of the newest level's line, and of what can become green there
  pub told-line : (q : ℕ) (t : Told) → told_in c conf q ≡ Some t → Front t.greens (line_at c (top_of c))
  told-line q t e = Front-trans t.greens (greens_of c q) (line_at c (top_of c)) (told-greens q t e) (begun-line c f q (told-begun q t e)).0

  pub told-reach : (q : ℕ) (t : Told) → told_in c conf q ≡ Some t → 0 < top_of c → Front t.greens (reach_at c (top_of c))
  told-reach q t e some = Front-trans t.greens (greens_of c q) (reach_at c (top_of c)) (told-greens q t e) (begun-reach c f q (told-begun q t e) some)

  -- of what two members told the shorter greens are a front of the longer ones
  pub told-front : (q r : ℕ) (t u : Told) → told_in c conf q ≡ Some t → told_in c conf r ≡ Some u → t.summary.green_count ≤ u.summary.green_count → Front t.greens u.greens
  told-front q r t u e g le =
      let a = (told-fits q t e).count in
      let b = (told-fits r u g).count in
      Front-of_both t.greens u.greens (line_at c (top_of c)) (told-line q t e) (told-line r u g) (omega arith)
