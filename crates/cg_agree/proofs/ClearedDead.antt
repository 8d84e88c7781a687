-- A record that an exchange of a later configuration clears, where no newer primary component is known, is of an attempt that is over.
use Rattle.std.proofs.Common.{◌≡◌, ℕ, ◌+◌, ◌≤◌, ◌<◌, true, false, not, ◌&&◌, ◌||◌, List, [], ◌∷◌, length, Option, Some, None, IfSome, refl, sym, ap, ◌∙◌, subst, inl, inr, arith, eq-eqb, eqb-true, nat_le}
use Rattle.std.specs.Prelude.{◌==◌, nat_lt}
use Rattle.std.specs.List.{list_any}
use Rattle.std.proofs.lemmas.Bool.{and_parts, and_from, or_cases, or_left, or_right, false_from_ne_true, le-leb, leb-true}
use Rattle.cg_base.specs.Sets.{has}
use Rattle.cg_base.specs.FindLaws.{found_passes}
use Rattle.cg_records.specs.declared.vulnerable.Vulnerable.{Vulnerable}
use Rattle.cg_knowledge.specs.declared.summary.Summary.{Summary}
use Rattle.cg_knowledge.specs.Primary.{newest_index, known_primary}
use Rattle.cg_knowledge.specs.Vulnerable.{is_long_past, is_overtaken, is_ended_by_one, is_ended_by_all, is_cleared}
use Rattle.cg_model.specs.Chronicle.{Told, Attempt, Chronicle}
use Rattle.cg_model.specs.Looks.{told_in, attempt_of, is_in, is_at, is_regular_at, is_regular_in}
use Rattle.cg_group.specs.declared.phase.Phase.{Phase}
use Rattle.cg_group.specs.declared.phase.Phase.TheVariants.{Down, Alone, Regular, Transitional}
use Rattle.cg_group.specs.State.{phase_of}
use Rattle.cg_model.specs.Fronts.{When, IsSomeWith}
use Rattle.cg_model.specs.Levels.{is_out_lacking, is_installed, is_live, is_dead, is_record_of}
use Rattle.cg_model.specs.FactsTalk.{AreTold}
use Rattle.cg_model.specs.FactsAttempts.{IsAttempt, IsWitnessed, AreWitnessed, is_without}
use Rattle.cg_model.specs.Facts.{Invariant}
use Rattle.cg_agree_lemmas.specs.ReachFacts.{all-at}
use Rattle.cg_agree_lemmas.specs.ReachWorld.{when-is}
use Rattle.cg_agree_lemmas.specs.EndCovers.{OfEach}
use Rattle.cg_agree_lemmas.specs.EndCases.{one-without, has_bit, all-witnessed}
use Rattle.cg_agree_lemmas.specs.EndQuorum.{both-each}
use Rattle.cg_agree_lemmas.specs.Knowledge.{each-bounded}
use Rattle.cg_agree_lemmas.specs.PlanEnd.{told-each}
use Rattle.cg_agree.proofs.DeadKept.{some-of}

-- a summary that was told in the configuration
pub record IsToldIn (c : Chronicle) (conf : ℕ) (s : Summary) : Type 0 where
  pub told : Told
  pub found : told_in c conf s.id ≡ Some told
  pub is : told.summary ≡ s

pub each-told : (c : Chronicle) (conf : ℕ) (heard : List Summary) → AreTold c conf heard → OfEach (IsToldIn c conf) heard
each-told c conf heard told = told-each c conf (IsToldIn c conf) one heard told where
  one : (q : ℕ) (t : Told) → told_in c conf q ≡ Some t → IsToldIn c conf t.summary
  one q t e =
      let named : t.summary.id ≡ q = eqb-true t.summary.id q (and_parts (t.summary.conf == conf) (t.summary.id == q) (found_passes (λ (t : Told). (t.summary.conf == conf) && (t.summary.id == q)) c.told t e)).1 in
      record { told = t; found = ap (told_in c conf) named ∙ e; is = refl }

-- told, with an index no greater than the newest
abbrev TellsLow : Chronicle → ℕ → List Summary → Summary → Type 0
TellsLow c later heard s = IsToldIn c later s × (s.prim.index ≤ newest_index heard)

-- who is regular in a configuration is in it
pub regular-in : (c : Chronicle) (conf q : ℕ) → is_in c conf q ≡ false → is_regular_in c conf q ≡ false
regular-in c conf q out = at (phase_of c.world.group q) out where
  at : (x : Phase) → is_at conf x ≡ false → is_regular_at conf x ≡ false
  at Down e = refl
  at Alone e = refl
  at (Regular k) e = e
  at (Transitional k set) e = refl

module _ (c : Chronicle) (i : Invariant c) (conf later : ℕ) (a : Attempt) (found : attempt_of c conf ≡ Some a) (before : conf < later) where
  conf-is : a.conf ≡ conf
  conf-is = eqb-true a.conf conf (found_passes (λ (a : Attempt). a.conf == conf) c.attempts a found)

  -- a summary of the later configuration shows it, where its sender is a member without a record of it
  pub without-dead : (s : Summary) → IsToldIn c later s → has a.set s.id ≡ true → s.prim.index ≤ a.from → is_record_of a.conf s.vulnerable ≡ false → is_dead c a ≡ true
  without-dead s told member low without =
      let fact = i.attempt.dead_evidence.told conf s.id later before in
      let one : IfSome (told_in c later s.id) (λ t. When (is_without a s.id t.summary.prim.index t.summary.vulnerable) (is_dead c a ≡ true)) =
      subst (λ (o : Option Attempt). IfSome o (λ a. IfSome (told_in c later s.id) (λ t. When (is_without a s.id t.summary.prim.index t.summary.vulnerable) (is_dead c a ≡ true)))) found fact in
      let two = subst (λ (o : Option Told). IfSome o (λ t. When (is_without a s.id t.summary.prim.index t.summary.vulnerable) (is_dead c a ≡ true))) told.found one in
      let three : When (is_without a s.id s.prim.index s.vulnerable) (is_dead c a ≡ true) = subst (λ (x : Summary). When (is_without a s.id x.prim.index x.vulnerable) (is_dead c a ≡ true)) told.is two in
      when-is (is_without a s.id s.prim.index s.vulnerable) (is_dead c a ≡ true)
      (and_from (has a.set s.id && nat_le s.prim.index a.from) (not (is_record_of a.conf s.vulnerable)) (and_from (has a.set s.id) (nat_le s.prim.index a.from) member (le-leb s.prim.index a.from low)) (ap not without)) three

  -- the bits of a summary's record of it are those of members that are out
  bit-out : (s : Summary) (r : ℕ) → IsToldIn c later s → s.prim.index ≤ a.from → has_bit conf r s.vulnerable ≡ true → (is_in c a.conf r ≡ false) × (has a.installed r ≡ false)
  bit-out s r told low bit =
      let fact = subst (λ (o : Option Told). IfSome o (λ t. AreWitnessed c (length t.greens) t.summary.prim.index [] t.summary.vulnerable)) told.found (i.attempt.bits_witness.told later s.id) in
      at s.vulnerable bit (subst (λ (x : Summary). AreWitnessed c (length told.told.greens) x.prim.index [] x.vulnerable) told.is fact) where
        at : (o : Option Vulnerable) → has_bit conf r o ≡ true → AreWitnessed c (length told.told.greens) s.prim.index [] o → (is_in c a.conf r ≡ false) × (has a.installed r ≡ false)
        at None bit fact = absurd (let clash : false ≡ true = bit in cc)
        at (Some w) bit fact =
            let parts = and_parts (w.attempt == conf) (has w.bits r) bit in
            let seen = subst (λ (o : Option Attempt). IsSomeWith o (λ a. IsWitnessed c a (length told.told.greens) s.prim.index r)) (ap (attempt_of c) (eqb-true w.attempt conf parts.0) ∙ found) (fact r parts.1 refl) in
            (seen.out, false_from_ne_true (has a.installed r) (λ installed. (let lt = seen.index installed in absurd (omega arith))))

  inside : (r : ℕ) → has a.installed r ≡ true → has a.set r ≡ true
  inside r is =
      let shape = subst (λ (o : Option Attempt). IfSome o (IsAttempt c conf)) found (i.attempt.attempt_shape conf) in
      all-at (has a.set) a.entered r shape.entered (all-at (has a.entered) a.installed r shape.installed is)

  -- where all members are out and none has installed it, it is over
  all-out : ((r : ℕ) → has a.set r ≡ true → (is_in c a.conf r ≡ false) × (has a.installed r ≡ false)) → is_dead c a ≡ true
  all-out each =
      and_from (not (is_installed a)) (list_any (is_out_lacking c a) a.set || not (is_live c a)) (ap not (nobody a.installed refl))
      (or_right (list_any (is_out_lacking c a) a.set) (not (is_live c a)) (ap not (false_from_ne_true (is_live c a) (λ live.
      (let one = some-of (is_regular_in c a.conf) a.set live in
      let clash : true ≡ false = sym one.2 ∙ regular-in c a.conf one.0 (each one.0 one.1).0 in cc)))))
    where
      nobody : (list : List ℕ) → a.installed ≡ list → nat_lt 0 (length a.installed) ≡ false
      nobody [] is = ap (λ l. nat_lt 0 (length l)) is
      nobody (q ∷ list) is =
          let here : has a.installed q ≡ true = ap (λ l. has l q) is ∙ or_left (q == q) (has list q) (eq-eqb q q refl) in
          absurd (let clash : true ≡ false = sym here ∙ (each q (inside q here)).1 in cc)

  -- The record of an attempt that an exchange clears, where no newer primary component is known.
  pub cleared-dead : (heard : List Summary) (v : Vulnerable) → AreTold c later heard → v.attempt ≡ conf → v.from ≡ a.from → v.set ≡ a.set → newest_index heard ≤ a.from →
      is_cleared heard v ≡ true → is_dead c a ≡ true
  unfolding is_cleared is_long_past is_overtaken
  cleared-dead heard v told attempt from set' low cleared =
      elim (or_cases (is_long_past heard v) (is_overtaken heard v || (is_ended_by_one heard v || is_ended_by_all heard v)) cleared) [
        | inl long ↦ absurd (let le = leb-true (v.from + 2) (newest_index heard) long in omega arith)
        | inr rest ↦ elim (or_cases (is_overtaken heard v) (is_ended_by_one heard v || is_ended_by_all heard v) rest) [
          | inl over ↦ absurd (let e = eqb-true (newest_index heard) (v.from + 1) (and_parts (newest_index heard == v.from + 1) (not ((known_primary heard).conf == v.attempt)) over).0 in omega arith)
          | inr ended ↦ elim (or_cases (is_ended_by_one heard v) (is_ended_by_all heard v) ended) [
            | inl one ↦
                let w = one-without (TellsLow c later heard) heard v one each in
                without-dead w.who w.holds.0 (ap (λ s. has s w.who.id) (sym set') ∙ w.member) (let le = w.holds.1 in omega arith)
                (ap (λ k. is_record_of k w.who.vulnerable) (conf-is ∙ sym attempt) ∙ w.without)
            | inr all ↦ all-out (λ r member. (let w = all-witnessed (TellsLow c later heard) heard v r all (ap (λ s. has s r) set' ∙ member) each in
                bit-out w.who r w.holds.0 (let le = w.holds.1 in omega arith) (ap (λ k. has_bit k r w.who.vulnerable) (sym attempt) ∙ w.bit)))
          ]
        ]
      ]
    where
      each : OfEach (TellsLow c later heard) heard
      each = both-each (IsToldIn c later) (λ s. s.prim.index ≤ newest_index heard) heard (each-told c later heard told) (each-bounded heard)
