-- What summaries show at a plan's end, where the newest index is that of the newest level: what could become green there is among the
-- most updated member's greens and the common yellow list.
use Rattle.std.proofs.Common.{◌⊎◌, ◌≡◌, ℕ, suc, ◌≤◌, ◌<◌, nat_le, Bool, true, false, cond, not, ◌&&◌, ◌||◌, List, [], ◌∷◌, ◌++◌, Option, Some, None, IfSome, is_some, filter, fold, length, refl, sym, ap, ◌∙◌, subst, inl, inr, arith, ◌≢◌, eq-eqb, eqb-true, append-nil}
use Rattle.std.specs.Prelude.{◌==◌, nat_lt}
use Rattle.std.specs.Option.{option_map_or}
use Rattle.std.specs.List.{list_any}
use Rattle.std.proofs.lemmas.Bool.{cases_Bool, cases_eq, cases_lt, and_parts, and_from, le-leb}
use Rattle.cg_base.specs.Sets.{has}
use Rattle.cg_base.specs.Weights.{ids}
use Rattle.cg_action.specs.declared.action.Action.{Action}
use Rattle.cg_members.specs.Servers.{members_of}
use Rattle.cg_queue.specs.Queue.{names_of}
use Rattle.cg_records.specs.declared.primary.Primary.{Primary}
use Rattle.cg_records.specs.declared.vulnerable.Vulnerable.{Vulnerable}
use Rattle.cg_records.specs.declared.yellow.Yellow.{Yellow}
use Rattle.cg_vote.specs.Quorum.{is_quorum}
use Rattle.cg_vote.specs.QuorumLaws.{meet}
use Rattle.cg_knowledge.specs.declared.summary.Summary.{Summary}
use Rattle.cg_knowledge.specs.Summaries.{lowest, lower, most_updated, remaining, senders}
use Rattle.cg_knowledge.specs.Primary.{newest, newest_index, known_primary, knows_prim}
use Rattle.cg_knowledge.specs.Vulnerable.{decided}
use Rattle.cg_knowledge.specs.Verdict.{all_cleared, decides}
use Rattle.cg_knowledge.specs.Yellow.{yellow_group, yellow_of, common_yellow}
use Rattle.cg_model.specs.Chronicle.{Told, Attempt, Chronicle}
use Rattle.cg_model.specs.Fronts.{Front, When, IsSomeWith}
use Rattle.cg_model.specs.Looks.{attempt_of, attempt_at, top_of, told_in, is_in, left_count}
use Rattle.cg_model.specs.Levels.{bound_in, line_at, reach_at, is_dead, is_frozen, is_installed, is_live, is_out_lacking, is_record_of, is_evidence, names_with, prim_at, prim_of}
use Rattle.cg_model.specs.FactsTalk.{AreTold}
use Rattle.cg_disk_records.specs.Holds.{run_on, cut_behind}
use Rattle.cg_model.specs.FactsExchange.{HasRecord, IsRecord}
use Rattle.cg_model.specs.FactsAttempts.{IsWitnessed, AreWitnessed, is_without}
use Rattle.cg_model.specs.FactsGreens.{Covers}
use Rattle.cg_agree.proofs.ClearedDead.{IsToldIn, each-told}
use Rattle.cg_agree.proofs.CoversStay.{covers-more}
use Rattle.cg_agree_lemmas.specs.EndCases.{ShowsEnd, has_bit, cleared-covers}
use Rattle.cg_agree_lemmas.specs.EndCovers.{OfEach, of_each-weaker, lowest-of, CoversWith}
use Rattle.cg_agree_lemmas.specs.EndCuts.{end-covers}
use Rattle.cg_agree_lemmas.specs.EndQuorum.{FitsNewest, both-each, quorum-covers, remaining-sent}
use Rattle.cg_agree.proofs.EndReached.{best-bounds}
use Rattle.cg_agree_lemmas.specs.FrontFacts.{Front-append, Front-trans, Front-of_both, Front-map, Front-take}
use Rattle.cg_agree_lemmas.specs.Knowledge.{known-of, each-bounded, sender-told, IsKnown, Becomes, Cleared, Kept, becomes}
use Rattle.cg_agree.proofs.NewestLevel.{ids-weighted, newest-level, installed-inside, prim-top, frozen-by}
use Rattle.cg_agree_lemmas.specs.ReachFacts.{line_in}
use Rattle.cg_agree_lemmas.specs.ReachWorld.{when-is}
use Rattle.cg_disk_records.specs.RunLaws.{run_on-append}
use Rattle.cg_agree.proofs.ToldLine.{Behind, told-conf, told-fits, told-levels, told-run, told-line, told-reach, told-front}
use Rattle.cg_agree_lemmas.specs.RunFronts.{run_on-front}

-- evidence that was told covers
abbrev pub ToldCovers : Chronicle → Type 0
ToldCovers c = (conf p : ℕ) → IfSome (told_in c conf p) (λ t. (let s = t.summary in
    When (is_evidence c p s.prim.index s.yellow.valid s.vulnerable) (Covers c (names_with t.greens s.yellow.valid s.yellow.list))))

-- what holds of all holds of those that pass
each-passing : (P : Summary → Type 0) (t : Summary → Bool) (heard : List Summary) → OfEach P heard → OfEach (λ s. P s × (t s ≡ true)) (filter t heard)
each-passing P t [] each = tt
each-passing P t (s ∷ heard) each = elim (cases_Bool (t s)) [
  | inl is ↦ subst (λ b. OfEach (λ s. P s × (t s ≡ true)) (cond b (s ∷ filter t heard) (filter t heard))) (sym is) ((each.0, is), each-passing P t heard each.1)
  | inr isnt ↦ subst (λ b. OfEach (λ s. P s × (t s ≡ true)) (cond b (s ∷ filter t heard) (filter t heard))) (sym isnt) (each-passing P t heard each.1)
]

-- each of the group has a valid list and the newest index
pub each-valid : (P : Summary → Type 0) (heard : List Summary) → OfEach P heard → OfEach (λ s. (P s × ((s.prim.index == newest_index heard) ≡ true)) × (s.yellow.valid ≡ true)) (yellow_group heard)
unfolding yellow_group newest
each-valid P heard each =
    each-passing (λ s. P s × ((s.prim.index == newest_index heard) ≡ true)) (λ s. s.yellow.valid) (filter (knows_prim (newest_index heard)) heard)
    (each-passing P (knows_prim (newest_index heard)) heard each)

lower-there : (heard : List Summary) (s : Summary) → fold lower (Some s) heard ≡ None → ⊥
lower-there [] s e = let clash : Some s ≡ None = e in absurd (let z = clash in cc)
lower-there (x ∷ heard) s e = elim (cases_Bool (nat_lt x.id s.id)) [
  | inl lt ↦ lower-there heard x (ap (λ b. fold lower (cond b (Some x) (Some s)) heard) (sym lt) ∙ e)
  | inr ge ↦ lower-there heard s (ap (λ b. fold lower (cond b (Some x) (Some s)) heard) (sym ge) ∙ e)
]

-- where nobody is lowest nobody is there
lowest-none : (heard : List Summary) → lowest heard ≡ None → heard ≡ []
unfolding lowest
lowest-none [] e = refl
lowest-none (s ∷ heard) e = absurd (lower-there heard s e)

none-passes : (t : Summary → Bool) (heard : List Summary) → filter t heard ≡ [] → OfEach (λ s. t s ≡ false) heard
none-passes t [] e = tt
none-passes t (s ∷ heard) e = elim (cases_Bool (t s)) [
  | inl is ↦ absurd (let clash : s ∷ filter t heard ≡ [] = ap (λ b. cond b (s ∷ filter t heard) (filter t heard)) (sym is) ∙ e in cc)
  | inr isnt ↦ (isnt, none-passes t heard (ap (λ b. cond b (s ∷ filter t heard) (filter t heard)) (sym isnt) ∙ e))
]

none-among : (u t : Summary → Bool) (heard : List Summary) → OfEach (λ s. t s ≡ false) (filter u heard) → OfEach (λ s. u s ≡ true → t s ≡ false) heard
none-among u t [] each = tt
none-among u t (s ∷ heard) each = elim (cases_Bool (u s)) [
  | inl is ↦ (let both = subst (λ b. OfEach (λ s. t s ≡ false) (cond b (s ∷ filter u heard) (filter u heard))) is each in ((λ y. both.0), none-among u t heard both.1))
  | inr isnt ↦ (
    (λ y. absurd (let clash : true ≡ false = sym y ∙ isnt in cc)),
    none-among u t heard (subst (λ b. OfEach (λ s. t s ≡ false) (cond b (s ∷ filter u heard) (filter u heard))) isnt each),
  )
]

-- where nobody of the newest index has a valid list
pub none-valid : (heard : List Summary) → lowest (yellow_group heard) ≡ None → OfEach (λ s. (s.prim.index == newest_index heard) ≡ true → s.yellow.valid ≡ false) heard
unfolding yellow_group newest
none-valid heard e =
    none-among (knows_prim (newest_index heard)) (λ s. s.yellow.valid) heard (none-passes (λ s. s.yellow.valid) (filter (knows_prim (newest_index heard)) heard) (lowest-none (yellow_group heard) e))

-- the most updated of those that were heard, and what it told
pub record Leads (c : Chronicle) (conf : ℕ) (heard : List Summary) : Type 0 where
  pub best : Told
  pub summary : Summary
  pub most : most_updated heard ≡ Some summary
  pub found : told_in c conf summary.id ≡ Some best
  pub is : best.summary ≡ summary

-- names of fronts of one line
names-front : (xs ys zs : List Action) → Front xs zs → Front ys zs → Front (names_of xs) (names_of ys) → Front xs ys
names-front xs ys zs one two named = Front-of_both xs ys zs one two (shorter xs ys named) where
  shorter : (xs ys : List Action) → Front (names_of xs) (names_of ys) → length xs ≤ length ys
  shorter [] ys f = omega arith
  shorter (x ∷ xs) [] f = absurd f
  shorter (x ∷ xs) (y ∷ ys) f = let le = shorter xs ys f.1 in omega arith

module _ (c : Chronicle) (f : Behind c) (covered : ToldCovers c) (conf : ℕ) (heard : List Summary) (are : AreTold c conf heard) (some : 0 < top_of c) (top : newest_index heard ≡ top_of c)
    (lead : Leads c conf heard) where
  abbrev a : Attempt
  a = attempt_at c (top_of c)

  abbrev b : Told
  b = lead.best

  abbrev reach : List Action
  reach = reach_at c (top_of c)

  abbrev mine : Summary → List Action
  mine s = option_map_or (λ t. t.greens) (told_in c conf s.id) []

  each : OfEach (λ s. IsToldIn c conf s × ((s.green_count ≤ lead.summary.green_count) × (s.prim.index ≤ newest_index heard))) heard
  each = both-each (IsToldIn c conf) (λ s. (s.green_count ≤ lead.summary.green_count) × (s.prim.index ≤ newest_index heard)) heard (each-told c conf heard are)
      (both-each (λ s. s.green_count ≤ lead.summary.green_count) (λ s. s.prim.index ≤ newest_index heard) heard (best-bounds heard lead.summary lead.most) (each-bounded heard))

  mine-is : (s : Summary) (is : IsToldIn c conf s) → mine s ≡ is.told.greens
  mine-is s is = ap (λ o. option_map_or (λ (t : Told). t.greens) o []) is.found

  mine-front : (s : Summary) → IsToldIn c conf s → s.green_count ≤ lead.summary.green_count → Front (mine s) b.greens
  mine-front s is le =
      let one = ap (λ (x : Summary). x.green_count) is.is in
      let two = ap (λ (x : Summary). x.green_count) lead.is in
      subst (λ xs. Front xs b.greens) (sym (mine-is s is)) (told-front c f conf s.id lead.summary.id is.told b is.found lead.found (omega arith))

  -- a summary that is evidence covers
  evidence-covers : (s : Summary) (is : IsToldIn c conf s) → is_evidence c s.id s.prim.index s.yellow.valid s.vulnerable ≡ true → Covers c (names_with (mine s) s.yellow.valid s.yellow.list)
  evidence-covers s is evidence =
      let one = subst (λ (o : Option Told). IfSome o (λ t. When (is_evidence c s.id t.summary.prim.index t.summary.yellow.valid t.summary.vulnerable) (Covers c (names_with t.greens t.summary.yellow.valid t.summary.yellow.list)))) is.found (covered conf s.id) in
      let two = subst (λ (x : Summary). When (is_evidence c s.id x.prim.index x.yellow.valid x.vulnerable) (Covers c (names_with is.told.greens x.yellow.valid x.yellow.list))) is.is one in
      subst (λ xs. Covers c (names_with xs s.yellow.valid s.yellow.list)) (sym (mine-is s is)) (when-is (is_evidence c s.id s.prim.index s.yellow.valid s.vulnerable) (Covers c (names_with is.told.greens s.yellow.valid s.yellow.list)) evidence two)

  valid-covers : (s : Summary) (is : IsToldIn c conf s) → (s.prim.index == newest_index heard) ≡ true → s.yellow.valid ≡ true → Covers c (names_of (mine s) ++ s.yellow.list)
  valid-covers s is index valid =
      subst (λ v. Covers c (names_with (mine s) v s.yellow.list)) valid (evidence-covers s is
      (and_from (s.prim.index == top_of c) (s.yellow.valid || (has a.set s.id && not (is_record_of a.conf s.vulnerable))) (ap (λ n. s.prim.index == n) (sym top) ∙ index)
      (ap (λ v. v || (has a.set s.id && not (is_record_of a.conf s.vulnerable))) valid)))

  best-reach : Front (names_of b.greens) (names_of reach)
  best-reach = Front-map (λ (x : Action). x.id) b.greens reach (told-reach c f conf lead.summary.id b lead.found some)

  -- a member's greens and its yellow names are each the next of their creator
  run_on-of : (s : Summary) (is : IsToldIn c conf s) → run_on [] (names_of (mine s) ++ s.yellow.list) ≡ true
  run_on-of s is =
      let fits = told-fits c f conf s.id is.told is.found in
      let cut : s.green_cut ≡ cut_behind [] (names_of is.told.greens) = ap (λ (x : Summary). x.green_cut) (sym is.is) ∙ fits.green_cut in
      let next : run_on s.green_cut s.yellow.list ≡ true = subst (λ (x : Summary). run_on x.green_cut x.yellow.list ≡ true) is.is fits.yellow_next in
      ap (λ xs. run_on [] (names_of xs ++ s.yellow.list)) (mine-is s is) ∙ run_on-append [] (names_of is.told.greens) s.yellow.list
      ∙ and_from (run_on [] (names_of is.told.greens)) (run_on (cut_behind [] (names_of is.told.greens)) s.yellow.list)
      (told-run c f conf s.id is.told is.found) (ap (λ gc. run_on gc s.yellow.list) (sym cut) ∙ next)

  -- ---- where somebody has a valid list

  group : OfEach (λ s. ((IsToldIn c conf s × ((s.green_count ≤ lead.summary.green_count) × (s.prim.index ≤ newest_index heard))) × ((s.prim.index == newest_index heard) ≡ true)) × (s.yellow.valid ≡ true)) (yellow_group heard)
  group = each-valid (λ s. IsToldIn c conf s × ((s.green_count ≤ lead.summary.green_count) × (s.prim.index ≤ newest_index heard))) heard each

  pub group-shows : (low : Summary) → lowest (yellow_group heard) ≡ Some low → Covers c (names_of b.greens ++ (common_yellow heard).list)
  group-shows low e =
      let is = lowest-of (λ s. ((IsToldIn c conf s × ((s.green_count ≤ lead.summary.green_count) × (s.prim.index ≤ newest_index heard))) × ((s.prim.index == newest_index heard) ≡ true)) × (s.yellow.valid ≡ true)) (yellow_group heard) low e group in
      let told = is.0.0.0 in
      let covers = valid-covers low told is.0.1 is.1 in (
        covers.0,
        end-covers heard lead.summary low (names_of b.greens) (names_of reach) (λ s. names_of (mine s)) lead.most
            (ap (λ (x : Summary). x.green_cut) (sym lead.is) ∙ (told-fits c f conf lead.summary.id b lead.found).green_cut)
            (run_on-front [] (names_of reach) (names_of (mine low) ++ low.yellow.list) covers.1 (run_on-of low told)) best-reach e
            (of_each-weaker (λ s. ((IsToldIn c conf s × ((s.green_count ≤ lead.summary.green_count) × (s.prim.index ≤ newest_index heard))) × ((s.prim.index == newest_index heard) ≡ true)) × (s.yellow.valid ≡ true))
            (λ s. CoversWith (names_of b.greens) (names_of reach) (names_of (mine s)) s.yellow.list)
            (λ s is. record { front = Front-map (λ (x : Action). x.id) (mine s) b.greens (mine-front s is.0.0.0 is.0.0.1.0); covers = (valid-covers s is.0.0.0 is.0.1 is.1).1 }) (yellow_group heard) group),
      )

  -- ---- where nobody has one

  heard-some : heard ≡ [] → ⊥
  unfolding newest_index
  heard-some e = let z : 0 ≡ top_of c = ap newest_index (sym e) ∙ top in absurd (omega arith)

  knows : (s : Summary) → IsToldIn c conf s → (s.prim ≡ prim_at c s.prim.index) × (s.prim.conf < conf)
  knows s is =
      let levels = told-levels c f conf s.id is.told is.found in
      let at = told-conf c f conf s.id is.told is.found in
      let early = levels.earlier in
      subst (λ (x : Summary). (x.prim ≡ prim_at c x.prim.index) × (x.prim.conf < conf)) is.is (levels.prim, omega arith)

  known : IsKnown (λ s. (s.prim ≡ prim_at c s.prim.index) × (s.prim.conf < conf)) heard
  known = known-of (λ s. (s.prim ≡ prim_at c s.prim.index) × (s.prim.conf < conf)) heard heard-some
      (of_each-weaker (IsToldIn c conf) (λ s. (s.prim ≡ prim_at c s.prim.index) × (s.prim.conf < conf)) knows heard (each-told c conf heard are))

  prim-is : known_primary heard ≡ prim_of c (top_of c) a
  prim-is = known.prim ∙ known.holds.0 ∙ ap (prim_at c) (known.index ∙ top) ∙ prim-top c f some

  -- the newest level's configuration is an earlier one
  before : a.conf < conf
  before =
      let e : known.who.prim.conf ≡ a.conf = ap (λ (x : Primary). x.conf) (sym known.prim ∙ prim-is) in
      let early = known.holds.1 in
      omega arith

  mine-line : (s : Summary) → IsToldIn c conf s → Front (mine s) (line_at c (top_of c))
  mine-line s is = subst (λ xs. Front xs (line_at c (top_of c))) (sym (mine-is s is)) (told-line c f conf s.id is.told is.found)

  -- an attempt that is over opens no level
  no-dead : is_dead c a ≡ true → ⊥
  no-dead dead =
      let over = (and_parts (not (is_installed a)) (list_any (is_out_lacking c a) a.set || not (is_live c a)) dead).0 in
      absurd (let clash : false ≡ true = sym (ap not (newest-level c f some).installed) ∙ over in cc)

  -- a member of the level without the record covers
  without : (s : Summary) → IsToldIn c conf s → s.prim.index ≤ newest_index heard → ((s.prim.index == newest_index heard) ≡ true → s.yellow.valid ≡ false) →
      has a.set s.id ≡ true → is_record_of a.conf s.vulnerable ≡ false → Front reach (mine s)
  without s is low invalid member none = elim (cases_Bool (s.prim.index == newest_index heard)) [
    | inl at ↦
        let v = invalid at in
        let covers = evidence-covers s is (and_from (s.prim.index == top_of c) (s.yellow.valid || (has a.set s.id && not (is_record_of a.conf s.vulnerable)))
        (ap (λ n. s.prim.index == n) (sym top) ∙ at)
        (ap (λ v. v || (has a.set s.id && not (is_record_of a.conf s.vulnerable))) v ∙ and_from (has a.set s.id) (not (is_record_of a.conf s.vulnerable)) member (ap not none))) in
        let named : Front (names_of reach) (names_of (mine s) ++ []) = (subst (λ v. Covers c (names_with (mine s) v s.yellow.list)) v covers).1 in
        names-front reach (mine s) (line_at c (top_of c)) (Front-take (bound_in c a) (line_in c a)) (mine-line s is) (subst (Front (names_of reach)) (append-nil (names_of (mine s))) named)
    | inr isnt ↦
        let newest-is = newest-level c f some in
        let from = newest-is.from in
        let apart : s.prim.index ≡ newest_index heard → ⊥ = λ e. absurd (let clash : true ≡ false = sym (eq-eqb s.prim.index (newest_index heard) e) ∙ isnt in cc) in
        let less : s.prim.index ≤ a.from = lower-than s.prim.index (newest_index heard) a.from apart low (top ∙ sym from) in
        let one = subst (λ (o : Option Attempt). IfSome o (λ a. IfSome (told_in c conf s.id) (λ t. When (is_without a s.id t.summary.prim.index t.summary.vulnerable) (is_dead c a ≡ true)))) newest-is.found
        (f.attempt.dead_evidence.told a.conf s.id conf before) in
        let two = subst (λ (o : Option Told). IfSome o (λ t. When (is_without a s.id t.summary.prim.index t.summary.vulnerable) (is_dead c a ≡ true))) is.found one in
        let three : When (is_without a s.id s.prim.index s.vulnerable) (is_dead c a ≡ true) = subst (λ (x : Summary). When (is_without a s.id x.prim.index x.vulnerable) (is_dead c a ≡ true)) is.is two in
        absurd (no-dead (when-is (is_without a s.id s.prim.index s.vulnerable) (is_dead c a ≡ true)
        (and_from (has a.set s.id && nat_le s.prim.index a.from) (not (is_record_of a.conf s.vulnerable)) (and_from (has a.set s.id) (nat_le s.prim.index a.from) member (le-leb s.prim.index a.from less)) (ap not none)) three))
  ]
    where
      lower-than : (i n k : ℕ) → (i ≡ n → ⊥) → i ≤ n → n ≡ suc k → i ≤ k
      lower-than i n k apart le e = elim (cases_eq i n) [
        | inl same ↦ absurd (apart same)
        | inr other ↦ smaller i n k other le e
      ]
        where
          smaller : (i n k : ℕ) → i ≢ n → i ≤ n → n ≡ suc k → i ≤ k
          smaller i n k other le e = elim (cases_lt i n) [
            | inl lt ↦ omega arith
            | inr ge ↦ absurd (other (omega arith))
          ]

  -- bits are of those that are out, with no more greens
  bits : (s : Summary) (is : IsToldIn c conf s) (r : ℕ) → has_bit a.conf r s.vulnerable ≡ true → (is_in c a.conf r ≡ false) × (left_count a r ≤ length (mine s))
  bits s is r bit =
      let fact = subst (λ (o : Option Told). IfSome o (λ t. AreWitnessed c (length t.greens) t.summary.prim.index [] t.summary.vulnerable)) is.found (f.attempt.bits_witness.told conf s.id) in
      at s.vulnerable bit (subst (λ xs. AreWitnessed c (length xs) s.prim.index [] s.vulnerable) (sym (mine-is s is)) (subst (λ (x : Summary). AreWitnessed c (length is.told.greens) x.prim.index [] x.vulnerable) is.is fact)) where
        at : (o : Option Vulnerable) → has_bit a.conf r o ≡ true → AreWitnessed c (length (mine s)) s.prim.index [] o → (is_in c a.conf r ≡ false) × (left_count a r ≤ length (mine s))
        at None bit fact = absurd (let clash : false ≡ true = bit in cc)
        at (Some v) bit fact =
            let parts = and_parts (v.attempt == a.conf) (has v.bits r) bit in
            let w : IsWitnessed c a (length (mine s)) s.prim.index r =
            subst (λ (o : Option Attempt). IsSomeWith o (λ a. IsWitnessed c a (length (mine s)) s.prim.index r)) (ap (attempt_of c) (eqb-true v.attempt a.conf parts.0) ∙ (newest-level c f some).found) (fact r parts.1 refl) in
            (w.out, w.count)

  -- a record of the attempt is one from the index before the newest
  fits : (s : Summary) → IsToldIn c conf s → (v : Vulnerable) → s.vulnerable ≡ Some v → v.attempt ≡ a.conf → (v.set ≡ a.set) × (newest_index heard ≡ suc v.from) × ((known_primary heard).conf ≡ v.attempt)
  fits s is v e at =
      let levels = told-levels c f conf s.id is.told is.found in
      let has_record : HasRecord c is.told.summary.id is.told.summary.prim.index (Some v) = subst (HasRecord c is.told.summary.id is.told.summary.prim.index) (ap (λ (x : Summary). x.vulnerable) is.is ∙ e) levels.has_record in
      let newest-is = newest-level c f some in
      let record_is : IsRecord a v = subst (λ (o : Option Attempt). IsSomeWith o (λ a. IsRecord a v)) (ap (attempt_of c) at ∙ newest-is.found) has_record.2 in
      (record_is.1, top ∙ sym newest-is.from ∙ ap suc (sym record_is.0), ap (λ (x : Primary). x.conf) prim-is ∙ sym at)

  set-known : (p : ℕ) → has (ids (known_primary heard).set) p ≡ true → has a.set p ≡ true
  set-known p is = ap (λ xs. has xs p) (sym (ids-weighted (members_of c.start a.greens) a.set)) ∙ ap (λ (x : Primary). has (ids x.set) p) (sym prim-is) ∙ is

  inside : (r : ℕ) → has a.installed r ≡ true → has a.set r ≡ true
  inside = installed-inside c f a.conf a (newest-level c f some).found

  module _ (none : lowest (yellow_group heard) ≡ None) where
    each-fits : OfEach (FitsNewest c a b.greens mine heard) heard
    each-fits = of_each-weaker (λ s. (IsToldIn c conf s × ((s.green_count ≤ lead.summary.green_count) × (s.prim.index ≤ newest_index heard))) × ((s.prim.index == newest_index heard) ≡ true → s.yellow.valid ≡ false))
        (FitsNewest c a b.greens mine heard)
        (λ s is. record {
          shows = record { front = mine-front s is.0.0 is.0.1.0; without = without s is.0.0 is.0.1.1 is.1; bits = bits s is.0.0 };
          fits = fits s is.0.0;
        })
        heard (both-each (λ s. IsToldIn c conf s × ((s.green_count ≤ lead.summary.green_count) × (s.prim.index ≤ newest_index heard)))
        (λ s. (s.prim.index == newest_index heard) ≡ true → s.yellow.valid ≡ false) heard each (none-valid heard none))

    covers-names : is_frozen c (top_of c) ≡ true → Front reach b.greens → Covers c (names_of b.greens)
    covers-names frozen front = (frozen, Front-map (λ (x : Action). x.id) reach b.greens front)

    -- a quorum has a member of the level
    quorum-none : decides heard ≡ true → Covers c (names_of b.greens)
    unfolding decides
    quorum-none holds =
        let parts = and_parts (is_quorum (known_primary heard).set (remaining heard)) (all_cleared heard) holds in
        let share = meet (known_primary heard).set (remaining heard) (remaining heard) parts.0 parts.0 in
        let sent = remaining-sent (IsToldIn c conf) heard share.member share.is_in_one (each-told c conf heard are) in
        covers-names (frozen-by c f some conf share.member before (set-known share.member share.is_member) (ap (λ q. is_some (told_in c conf q)) (sym sent.id) ∙ ap is_some sent.holds.found))
        (quorum-covers c a b.greens mine heard set-known inside (told-line c f conf lead.summary.id b lead.found) holds each-fits)

    -- and a member of the level covers, whose record is cleared or of another attempt
    member-none : (p : ℕ) (t : Told) → told_in c conf p ≡ Some t → has (senders heard) p ≡ true → has a.set p ≡ true → is_record_of a.conf (decided heard t.summary.vulnerable) ≡ false → Covers c (names_of b.greens)
    member-none p t found listed member cleared =
        let sent = sender-told (λ s. IsToldIn c conf s × FitsNewest c a b.greens mine heard s) heard p listed (both-each (IsToldIn c conf) (FitsNewest c a b.greens mine heard) heard (each-told c conf heard are) each-fits) in
        let same : sent.who ≡ t.summary = sym sent.holds.0.is ∙ ap (λ (o : Option Told). option_map_or (λ x. x.summary) o t.summary) (sym sent.holds.0.found ∙ ap (told_in c conf) sent.id ∙ found) in
        covers-names (frozen-by c f some conf p before member (ap is_some found))
        (of_record sent.who sent.who.vulnerable refl sent.holds.1 (ap (has a.set) sent.id ∙ member) (ap (λ (x : Summary). is_record_of a.conf (decided heard x.vulnerable)) same ∙ cleared)) where
          of_record : (s : Summary) (o : Option Vulnerable) → s.vulnerable ≡ o → FitsNewest c a b.greens mine heard s → has a.set s.id ≡ true → is_record_of a.conf (decided heard s.vulnerable) ≡ false → Front reach b.greens
          of_record s None is shown member cleared = Front-trans reach (mine s) b.greens (shown.shows.without member (ap (is_record_of a.conf) is)) shown.shows.front
          of_record s (Some v) is shown member cleared = elim (cases_Bool (v.attempt == a.conf)) [
            | inr other ↦ Front-trans reach (mine s) b.greens (shown.shows.without member (ap (is_record_of a.conf) is ∙ other)) shown.shows.front
            | inl own ↦ at own (becomes heard v)
          ]
            where
              at : (v.attempt == a.conf) ≡ true → Becomes heard v → Front reach b.greens
              at owns (Cleared clears none) =
                  let own : v.attempt ≡ a.conf = eqb-true v.attempt a.conf owns in
                  let facts = shown.fits v is own in
                  cleared-covers c a b.greens mine heard v own facts.0 inside (told-line c f conf lead.summary.id b lead.found) facts.1 facts.2 clears
                  (of_each-weaker (FitsNewest c a b.greens mine heard) (λ s. ShowsEnd c a b.greens s (mine s)) (λ s x. x.shows) heard each-fits)
              at owns (Kept kept same) = absurd (let clash : true ≡ false = sym owns ∙ sym (ap (is_record_of a.conf) (ap (decided heard) is ∙ same)) ∙ cleared in cc)

  -- ---- both

  common-none : lowest (yellow_group heard) ≡ None → common_yellow heard ≡ record { valid = false; list = [] }
  unfolding common_yellow
  common-none e = ap (yellow_of heard) e

  common-some : (low : Summary) → lowest (yellow_group heard) ≡ Some low → (common_yellow heard).valid ≡ true
  unfolding common_yellow
  common-some low e = ap (λ o. (yellow_of heard o).valid) e

  -- Where a quorum decides, what could become green is among the greens of the most updated member and the common yellow list.
  pub quorum-shows : decides heard ≡ true → Covers c (names_of b.greens ++ (common_yellow heard).list)
  quorum-shows holds = at (lowest (yellow_group heard)) refl where
    at : (o : Option Summary) → lowest (yellow_group heard) ≡ o → Covers c (names_of b.greens ++ (common_yellow heard).list)
    at (Some low) e = group-shows low e
    at None e = covers-more c (top_of c) (names_of b.greens) (names_of b.greens ++ (common_yellow heard).list) (Front-append (names_of b.greens) (common_yellow heard).list) (quorum-none e holds)

  -- So it is where the common list is valid, and where a member of the level keeps no record of its attempt.
  pub member-shows : (p : ℕ) (t : Told) → told_in c conf p ≡ Some t → has (senders heard) p ≡ true →
      ((common_yellow heard).valid ≡ true) ⊎ ((has a.set p ≡ true) × (is_record_of a.conf (decided heard t.summary.vulnerable) ≡ false)) →
      Covers c (names_with b.greens (common_yellow heard).valid (common_yellow heard).list)
  member-shows p t found listed either = at (lowest (yellow_group heard)) refl where
    at : (o : Option Summary) → lowest (yellow_group heard) ≡ o → Covers c (names_with b.greens (common_yellow heard).valid (common_yellow heard).list)
    at (Some low) e = subst (λ v. Covers c (names_with b.greens v (common_yellow heard).list)) (sym (common-some low e)) (group-shows low e)
    at None e = elim either [
      | inl valid ↦ absurd (let clash : false ≡ true = sym (ap (λ (y : Yellow). y.valid) (common-none e)) ∙ valid in cc)
      | inr member ↦ covers-more c (top_of c) (names_of b.greens) (names_with b.greens (common_yellow heard).valid (common_yellow heard).list)
          (Front-append (names_of b.greens) (cond (common_yellow heard).valid (common_yellow heard).list [])) (member-none e p t found listed member.0 member.1)
    ]
