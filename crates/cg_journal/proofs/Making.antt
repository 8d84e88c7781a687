-- A disk of the older format, as it is made.
use Rattle.std.proofs.Common.{◌≡◌, ⊎_elim, ℕ, ◌+◌, ◌^◌, ◌<◌, List, [], ◌∷◌, ◌++◌, length, drop, Some, Result, Ok, Err, refl, sym, ◌∙◌, ap, arith, length-append}
use Rattle.std.proofs.lemmas.List.{drop-drop}
use Rattle.cg_disk.specs.Sides.{Image}
use Rattle.cg_disk.specs.Writes.{overwritten}
use Rattle.cg_disk.specs.View.{DiskView}
use Rattle.cg_disk.specs.declared.disk.Side.TheVariants.{A}
use Rattle.cg_disk.specs.declared.disk.DiskFault.{DiskFault}
use Rattle.cg_disk.specs.declared.disk.DiskFault.TheVariants.{Failed, NoMemory}
use Rattle.cg_journal.specs.Records.{header, framed, bodies_of}
use Rattle.cg_journal.specs.Strikes.{IsUnstruck}
use Rattle.cg_journal.specs.Put.{IsPut, Puts}
use Rattle.cg_journal.specs.Fresh.{HasFronts, PutsFronts}
use Rattle.cg_journal.specs.Found.{old_header, found_on, both_found, blank}
use Rattle.cg_journal.specs.FoundLaws.{shut_found}
use Rattle.cg_journal.specs.OpensMixed.{MakesOldSides}
use Rattle.cg_journal.specs.ViewLaws.{struck_more, unstruck_more}
use Rattle.cg_journal.proofs.Adding.{gate_written}
use Rattle.cg_journal.proofs.Opening.{fresh_has}
use Rattle.cg_journal.proofs.Reading.{reads_as}
use Rattle.cg_journal.proofs.EitherSide.{found_old}

-- ---- what stands on the sides

abbrev front_of : List ℕ → List ℕ
front_of h = h ++ 0 ∷ []

-- a record on a side with such a front
abbrev with_front : List ℕ → List ℕ → List ℕ → List ℕ
with_front h body side = overwritten (overwritten (overwritten side 0 (front_of h)) 9 (framed body)) 8 (1 ∷ [])

behind : List ℕ → List ℕ → List ℕ → List ℕ
behind h body side = framed body ++ drop (9 + length (framed body)) (overwritten side 0 (front_of h))

behind_same : (body side : List ℕ) → behind old_header body side ≡ behind header body side
unfolding behind
behind_same body side =
    let n = length (framed body) in
    ap (λ (l : List ℕ). framed body ++ l) (sym (drop-drop n 9 (overwritten side 0 (front_of old_header))) ∙ drop-drop n 9 (overwritten side 0 (front_of header)))

old_is : (body side : List ℕ) → with_front old_header body side ≡ old_header ++ 1 ∷ behind old_header body side
unfolding behind
old_is body side = refl

new_is : (body side : List ℕ) → with_front header body side ≡ header ++ 1 ∷ behind header body side
unfolding behind
new_is body side = refl

made_found : (body side : List ℕ) → length body < 2 ^ 32 → found_on (with_front old_header body side) ≡ Some (record { version = 1; bodies = body ∷ [] })
made_found body side short =
    let read : bodies_of (with_front header body side) ≡ Some (body ∷ []) = reads_as (with_front header body side) (14 + length body) (body ∷ []) (gate_written (overwritten side 0 (front_of header)) 9 [] (fresh_has side) body short) in
    ap found_on (old_is body side ∙ ap (λ (l : List ℕ). old_header ++ 1 ∷ l) (behind_same body side))
    ∙ found_old (1 ∷ behind header body side) (body ∷ []) (ap bodies_of (sym (new_is body side)) ∙ read)

other_found : (side : List ℕ) → found_on (overwritten side 0 (front_of old_header)) ≡ Some (blank 1)
other_found side = shut_found (overwritten side 0 (front_of old_header)) (omega (arith, length-append (front_of old_header) (drop 9 side))) (λ is_one. absurd (omega (arith, is_one)))

-- ---- the calls

module _ (body : List ℕ) (short : length body < 2 ^ 32) (old m1 : DiskView) where
  pub fronts_failed : (T : Type 0) (front : List ℕ) (fault : DiskFault) → PutsFronts {T = T} front old m1 (Err fault) → MakesOldSides {T = T} body old m1 (Err fault)
  fronts_failed T front Failed is = record { struck = is.struck; time = omega (arith, is.time) }
  fronts_failed T front NoMemory is = record { unstruck = is.unstruck; time = omega (arith, is.time) }

  module _ (fronts : HasFronts (front_of old_header) old m1) (m2 : DiskView) where
    pub record_failed : (T : Type 0) (fault : DiskFault) → Puts {T = T} A 9 (framed body) m1 m2 (Err fault) → MakesOldSides {T = T} body old m2 (Err fault)
    record_failed T Failed cut = record {
      struck = struck_more old m1 m2 fronts.unstruck (omega (arith, fronts.time)) cut.1.struck;
      time = ⊎_elim (λ one. omega (arith, fronts.time, cut.1.time, one)) (λ two. omega (arith, fronts.time, cut.1.time, two)) cut.1.first_or_second;
    }
    record_failed T NoMemory kept = record { unstruck = unstruck_more old m1 m2 fronts.unstruck kept.unstruck; time = omega (arith, fronts.time, kept.time) }

    module _ (put : IsPut A 9 (framed body) m1 m2) (new : DiskView) where
      unstruck2 : IsUnstruck old m2
      unstruck2 = unstruck_more old m1 m2 fronts.unstruck put.unstruck

      pub makes : {T : Type 0} (r : Result T DiskFault) → Puts A 8 (1 ∷ []) m2 new r → MakesOldSides body old new r
      makes (Ok x) gate =
          let a : new.reads.a ≡ with_front old_header body old.reads.a = ap (λ (i : Image). i.a) gate.reads ∙ ap (λ (i : Image). overwritten i.a 8 (1 ∷ [])) put.reads ∙ ap (λ (l : List ℕ). overwritten (overwritten l 9 (framed body)) 8 (1 ∷ [])) fronts.a in
          let b : new.reads.b ≡ overwritten old.reads.b 0 (front_of old_header) = ap (λ (i : Image). i.b) gate.reads ∙ ap (λ (i : Image). i.b) put.reads ∙ fronts.b in
          let on_a = ap found_on a ∙ made_found body old.reads.a short in
          let on_b = ap found_on b ∙ other_found old.reads.b in
          record {
            is = λ i. both_found (on_a i) (on_b i);
            rest = gate.rest;
            time = omega (arith, fronts.time, put.time, gate.time);
            unstruck = unstruck_more old m2 new unstruck2 gate.unstruck;
          }
      makes (Err Failed) cut = record {
        struck = struck_more old m2 new unstruck2 (omega (arith, fronts.time, put.time)) cut.1.struck;
        time = ⊎_elim (λ one. omega (arith, fronts.time, put.time, cut.1.time, one)) (λ two. omega (arith, fronts.time, put.time, cut.1.time, two)) cut.1.first_or_second;
      }
      makes (Err NoMemory) kept = record { unstruck = unstruck_more old m2 new unstruck2 kept.unstruck; time = omega (arith, fronts.time, put.time, kept.time) }
