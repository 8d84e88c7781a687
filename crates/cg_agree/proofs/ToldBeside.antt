-- What the members of an exchange told stands on one line of greens, and the most updated member's is the longest.
use Rattle.std.proofs.Common.{◌≡◌, ℕ, ◌≤◌, true, false, ◌&&◌, List, [], ◌∷◌, length, take, drop, Option, Some, None, IfSome, is_some, refl, sym, ap, subst, ◌∙◌, arith, fold, eqb-true, option_map, option_and_then}
use Rattle.std.specs.Prelude.{◌==◌}
use Rattle.std.proofs.lemmas.Bool.{and_parts}
use Rattle.std.proofs.lemmas.List.Sums.{fold-append}
use Rattle.cg_base.specs.Cuts.{index_in}
use Rattle.cg_base.specs.Sets.{has}
use Rattle.cg_base.specs.FindLaws.{found_passes}
use Rattle.cg_action.specs.declared.action.Action.{Action}
use Rattle.cg_queue.specs.Queue.{names_of}
use Rattle.cg_knowledge.specs.declared.summary.Summary.{Summary}
use Rattle.cg_knowledge.specs.Summaries.{senders, remaining, most_updated}
use Rattle.cg_plan.specs.Plan.{least_greens, least_reds}
use Rattle.cg_client.specs.Replica.{Held, Replica}
use Rattle.cg_model.specs.World.{Node, NodeState, Up, Down, node_of, replica_of, running, has_begun}
use Rattle.cg_model.specs.Chronicle.{Told, Chronicle}
use Rattle.cg_model.specs.Looks.{greens_of, stood_of, told_in, core_of, disk_held, on_disk, ordered_in, OfCores, top_of}
use Rattle.cg_model.specs.Talk.{hears, no_talk, talk_of}
use Rattle.cg_model.specs.Fronts.{Front, IsSomeWith}
use Rattle.cg_model.specs.Attempts.{held_in}
use Rattle.cg_model.specs.Levels.{line_at, reached_at}
use Rattle.cg_model.specs.Facts.{Invariant}
use Rattle.cg_model.specs.FactsExchange.{IsSummary, IsOutdone}
use Rattle.cg_model.specs.FactsReplica.{IsCore, DiskBehind}
use Rattle.cg_model.specs.FactsTalk.{AreTold, summaries_of, whole_talk}
use Rattle.cg_agree_lemmas.specs.EndCovers.{OfEach}
use Rattle.cg_agree_lemmas.specs.EndQuorum.{both-each}
use Rattle.cg_agree.proofs.EndReached.{best-bounds}
use Rattle.cg_agree_lemmas.specs.FrontFacts.{Front-trans, Front-of_both, Front-map}
use Rattle.cg_agree_lemmas.specs.HandsContent.{IsTold, best-told}
use Rattle.cg_agree_lemmas.specs.HandsKept.{take-drop}
use Rattle.cg_agree_lemmas.specs.HandsSent.{front-told, heard-more}
use Rattle.cg_agree_lemmas.specs.Knowledge.{sender-told}
use Rattle.cg_agree_lemmas.specs.KnownBounds.{least-greens, least-reds}
use Rattle.cg_agree_lemmas.specs.PlanEnd.{told-each, own-told}
use Rattle.cg_agree_lemmas.specs.PlanProgress.{AreBeside}
use Rattle.cg_disk_records.specs.Holds.{run_on}
use Rattle.cg_agree_lemmas.specs.RunFronts.{run_on-front}

-- what holds of each core holds of all greens of who has begun
pub core-now : (c : Chronicle) (P : Held → List Action → Type 0) → OfCores c P → DiskBehind c → (q : ℕ) → has_begun c.world q ≡ true → (h : Held) × P h (greens_of c q)
core-now c P cores behind q begun = at (node_of c.world q) refl begun where
  life : (s : Node) (l : NodeState) → s.life ≡ l → node_of c.world q ≡ Some s → (h : Held) × P h (greens_of c q)
  life s (Up r disk) is e =
      let runs : replica_of c.world q ≡ Some r = ap (option_and_then (λ (s : Node). running s.life)) e ∙ ap running is in
      (r.held, subst (λ (o : Option Replica). IfSome o (λ r. P r.held (greens_of c q))) runs (cores.memory q))
  life s (Down disk green) is e =
      let none : replica_of c.world q ≡ None = ap (option_and_then (λ (s : Node). running s.life)) e ∙ ap running is in
      let held : disk_held c.world q ≡ Some (on_disk (Down disk green)) = ap (option_map (λ (s : Node). on_disk s.life)) e ∙ ap (λ l. Some (on_disk l)) is in (
        on_disk (Down disk green),
        subst (P (on_disk (Down disk green))) (sym (behind.down q none))
            (subst (λ (o : Option Held). IfSome o (λ h. P h (stood_of c q))) held (cores.disk q)),
      )

  at : (o : Option Node) → node_of c.world q ≡ o → is_some o ≡ true → (h : Held) × P h (greens_of c q)
  at None e begun = absurd (let clash : false ≡ true = begun in cc)
  at (Some s) e begun = life s s.life refl e

module _ (c : Chronicle) (i : Invariant c) (conf : ℕ) where
  -- who has told something has begun
  pub told-begun : (q : ℕ) (t : Told) → told_in c conf q ≡ Some t → has_begun c.world q ≡ true
  told-begun q t e = i.net.members_begun.member conf q (i.net.past_left.member conf q (ap is_some e))

  -- what a member told has its name
  pub told-id : (q : ℕ) (t : Told) → told_in c conf q ≡ Some t → t.summary.id ≡ q
  told-id q t e = eqb-true t.summary.id q (and_parts (t.summary.conf == conf) (t.summary.id == q) (found_passes (λ (t : Told). (t.summary.conf == conf) && (t.summary.id == q)) c.told t e)).1

  -- what a member told fits its greens
  pub told-fits : (q : ℕ) (t : Told) → told_in c conf q ≡ Some t → IsSummary c t
  told-fits q t e = subst (λ (o : Option Told). IfSome o (IsSummary c)) e (i.exchange.summary_of_sender.fits conf q)

  -- the greens of what was told are a front of all greens of the sender
  pub told-greens : (q : ℕ) (t : Told) → told_in c conf q ≡ Some t → Front t.greens (greens_of c q)
  told-greens q t e = at (node_of c.world q) refl (told-begun q t e) where
    at : (o : Option Node) → node_of c.world q ≡ o → is_some o ≡ true → Front t.greens (greens_of c q)
    at None none begun = absurd (let clash : false ≡ true = begun in cc)
    at (Some s) some begun =
        let core : core_of c q ≡ Some (held_in s.life) = ap (option_map (λ (s : Node). held_in s.life)) some in
        let all = subst (λ (o : Option Told). IfSome o (λ t. IfSome (core_of c q) (IsOutdone c t))) e (i.exchange.summary_of_sender.outdone conf q) in
        let one : IsOutdone c t (held_in s.life) = subst (λ (o : Option Held). IfSome o (IsOutdone c t)) core all in
        subst (λ x. Front t.greens (greens_of c x)) (told-id q t e) one.greens

  -- each of the greens that were told is the next of its creator
  pub told-run : (q : ℕ) (t : Told) → told_in c conf q ≡ Some t → run_on [] (names_of t.greens) ≡ true
  told-run q t e =
      let core = core-now c (IsCore c) i.replica.cores i.replica.disk_behind q (told-begun q t e) in
      run_on-front [] (names_of t.greens) (names_of (greens_of c q)) (Front-map (λ (a : Action). a.id) t.greens (greens_of c q) (told-greens q t e)) core.1.contiguous.greens

  -- the greens that were told are a front of the newest level's line
  told-line : (q : ℕ) (t : Told) → told_in c conf q ≡ Some t → Front t.greens (line_at c (top_of c))
  told-line q t e =
      let core = core-now c (λ h greens. Front greens (line_at c (top_of c)) × (length greens ≤ reached_at c (top_of c))) i.green.one_order i.replica.disk_behind q (told-begun q t e) in
      Front-trans t.greens (greens_of c q) (line_at c (top_of c)) (told-greens q t e) core.1.0

  -- of what two members told the shorter greens are a front of the longer ones
  pub told-front : (q r : ℕ) (t u : Told) → told_in c conf q ≡ Some t → told_in c conf r ≡ Some u → t.summary.green_count ≤ u.summary.green_count → Front t.greens u.greens
  told-front q r t u e f le =
      let a = (told-fits q t e).count in
      let b = (told-fits r u f).count in
      Front-of_both t.greens u.greens (line_at c (top_of c)) (told-line q t e) (told-line r u f) (omega arith)

  -- the summaries in a front of what was said are those that were told
  pub told-so_far : (k : ℕ) → AreTold c conf (talk_of (take k (ordered_in c conf))).heard
  told-so_far k =
      let list = ordered_in c conf in
      let whole : whole_talk c conf ≡ fold hears (talk_of (take k list)) (drop k list) = ap talk_of (sym (take-drop list k)) ∙ fold-append hears no_talk (take k list) (drop k list) in
      front-told c conf (talk_of (take k list)).heard (whole_talk c conf).heard
      (subst (λ t. Front (talk_of (take k list)).heard t.heard) (sym whole) (heard-more (drop k list) (talk_of (take k list)))) (i.talk.heard_is_told conf)

  -- a summary that was told, with the greens
  pub told-of : (s : Summary) → IsTold c conf s → (t : Told) × (told_in c conf s.id ≡ Some t) × (t.summary ≡ s)
  told-of s is = at (told_in c conf s.id) refl is where
    first : Summary → List Summary → Summary
    first d [] = d
    first d (x ∷ xs) = x

    at : (o : Option Told) → told_in c conf s.id ≡ o → summaries_of o ≡ s ∷ [] → (t : Told) × (told_in c conf s.id ≡ Some t) × (t.summary ≡ s)
    at None e same = absurd (let clash : [] ≡ s ∷ [] = same in cc)
    at (Some t) e same = (t, e, ap (first s) same)

  -- the most updated member of those that were heard
  pub record IsBest (heard : List Summary) : Type 0 where
    pub best : Told
    pub most : most_updated heard ≡ Some best.summary
    pub found : told_in c conf best.summary.id ≡ Some best

  -- it told what was heard of it
  pub best-of_heard : (heard : List Summary) (b : Summary) → AreTold c conf heard → most_updated heard ≡ Some b → IsBest heard
  best-of_heard heard b are most =
      let is : IsTold c conf b = subst (λ (o : Option Summary). IfSome o (IsTold c conf)) most (best-told c conf heard are) in
      let told = told-of b is in
      record { best = told.0; most = most ∙ ap Some (sym told.2); found = ap (told_in c conf) (ap (λ (x : Summary). x.id) told.2) ∙ told.1 }

  -- what holds of each summary that was heard holds of what a sender told
  pub mine-of : (p : ℕ) (mine : Told) (heard : List Summary) (P : Summary → Type 0) → AreTold c conf heard → told_in c conf p ≡ Some mine → has (senders heard) p ≡ true → OfEach P heard → P mine.summary
  mine-of p mine heard P are found sent each =
      let own = told-each c conf (λ s. s.id ≡ p → s ≡ mine.summary) (own-told c p conf mine found) heard are in
      let who = sender-told (λ s. (s.id ≡ p → s ≡ mine.summary) × P s) heard p sent (both-each (λ s. s.id ≡ p → s ≡ mine.summary) P heard own each) in
      subst P (who.holds.0 who.id) who.holds.1

  -- the most updated member, and one that remains
  pub beside : (p : ℕ) (mine : Told) (heard : List Summary) (b : IsBest heard) → AreTold c conf heard → told_in c conf p ≡ Some mine → has (senders heard) p ≡ true → has (remaining heard) p ≡ true →
      (low : ℕ) × AreBeside heard low b.best mine
  beside p mine heard b are found sent stays =
      let id = told-id p mine found in
      let stay : has (remaining heard) mine.summary.id ≡ true = ap (has (remaining heard)) id ∙ stays in
      let below = mine-of p mine heard (λ s. s.green_count ≤ b.best.summary.green_count) are found sent (best-bounds heard b.best.summary b.most) in
      let above = mine-of p mine heard (λ s. has (remaining heard) s.id ≡ true → IsSomeWith (least_greens heard) (λ l. l ≤ s.green_count)) are found sent (least-greens heard) stay in
      let low = some (least_greens heard) mine.summary.green_count above in
      let fits = told-fits b.best.summary.id b.best b.found in (
        low.0,
        record {
          most = b.most;
          least = low.1;
          count = fits.count;
          cut = fits.green_cut;
          run = told-run b.best.summary.id b.best b.found;
          above = low.2;
          below = below;
          reds = λ creator. weak (least_reds heard creator) (index_in mine.summary.red_cut creator)
              (mine-of p mine heard (λ s. has (remaining heard) s.id ≡ true → IsSomeWith (least_reds heard creator) (λ l. l ≤ index_in s.red_cut creator)) are found sent (least-reds heard creator) stay);
        },
      )
    where
      some : (o : Option ℕ) (n : ℕ) → IsSomeWith o (λ l. l ≤ n) → (l : ℕ) × (o ≡ Some l) × (l ≤ n)
      some None n is = absurd is
      some (Some l) n is = (l, refl, is)

      weak : (o : Option ℕ) (n : ℕ) → IsSomeWith o (λ l. l ≤ n) → IfSome o (λ k. k ≤ n)
      weak None n is = tt
      weak (Some l) n is = is
