-- One of the configurations in memory is written again.
use Rattle.std.proofs.Common.{◌≡◌, ℕ, Bool, true, false, zero, suc, ◌<◌, ◌≤◌, ◌+◌, ◌-◌, if◌then◌else◌, List, [], ◌∷◌, length, Some, refl, sym, ap, subst, ◌∙◌, arith, Result, Ok, Err, OnOk, ⊎_elim}
use Rattle.std.proofs.Math.ListN.{set, get_or, get_or-map}
use Rattle.std.proofs.lemmas.List.{map-set, length-map}
use Rattle.std.proofs.lemmas.Option.{slice_get-get_or}
use Rattle.std.proofs.lemmas.Bool.{cases_Bool, eqb-false}
use Rattle.std.specs.Prelude.{◌==◌}
use Rattle.std.specs.List.{slice_get}
use Rattle.cg_base.specs.Lists.{at_place}
use Rattle.cg_group.specs.State.{Configuration, changed_at}
use Rattle.cg_group.specs.Logs.{LogView, configurations_of, RoomFor}
use Rattle.cg_group.proofs.LogFacts.{set-changed_at, changed_at-beyond}
use Rattle.cg_group.specs.LookupLaws.{changed_at-zero}

-- a number to which one is added by a test
one-more : (b : Bool) (n : ℕ) → b ≡ true → (if b then 1 else 0) + n ≡ suc n
one-more true n e = omega arith
one-more false n e = absurd (cc)

none-more : (b : Bool) (n : ℕ) → b ≡ false → (if b then 1 else 0) + n ≡ n
none-more true n e = absurd (cc)
none-more false n e = omega arith

module _ {M : Type 0} where
  pub written : (change : Configuration M → Configuration M) (logs : List (LogView M)) (conf : ℕ) (d new : LogView M) → (conf ≡ 0 → ⊥) → conf ≤ length logs →
      new.configuration ≡ change (get_or logs (conf - 1) d).configuration → configurations_of (set logs (conf - 1) new) ≡ changed_at change (configurations_of logs) conf
  written change logs conf d new pos le e =
      let place : suc (conf - 1) ≡ conf = omega arith in
      let within : conf - 1 < length (configurations_of logs) = rw length-map (omega arith) in
      map-set (λ s. s.configuration) logs (conf - 1) new
      ∙ ap (set (configurations_of logs) (conf - 1)) (e ∙ ap change (sym (get_or-map (λ s. s.configuration) logs (conf - 1) d)))
      ∙ set-changed_at change (configurations_of logs) (conf - 1) d.configuration within
      ∙ ap (changed_at change (configurations_of logs)) place

  pub written_nowhere : (change : Configuration M → Configuration M) (logs : List (LogView M)) (conf : ℕ) → conf ≡ 0 → configurations_of logs ≡ changed_at change (configurations_of logs) conf
  written_nowhere change logs conf e = sym (ap (changed_at change (configurations_of logs)) e ∙ changed_at-zero change (configurations_of logs))

  pub written_beyond : (change : Configuration M → Configuration M) (logs : List (LogView M)) (conf : ℕ) → length logs < conf → configurations_of logs ≡ changed_at change (configurations_of logs) conf
  written_beyond change logs conf lt = sym (changed_at-beyond change (configurations_of logs) conf (rw length-map lt))

  room_step : (logs : List (LogView M)) (i j m n : ℕ) (new d s : LogView M) → i < length logs → (m ≤ (get_or logs i d).room → n ≤ new.room) → n ≤ m →
      ((t : LogView M) → slice_get logs j ≡ Some t → m ≤ t.room) → slice_get (set logs i new) j ≡ Some s → n ≤ s.room
  room_step [] i j m n new d s lt step le room e = absurd (omega arith)
  room_step (x ∷ logs) zero zero m n new d s lt step le room e =
      let same : new ≡ s = cc in subst (λ (t : LogView M). n ≤ t.room) same (step (room x refl))
  room_step (x ∷ logs) zero (suc j) m n new d s lt step le room e = let enough = room s e in omega arith
  room_step (x ∷ logs) (suc i) zero m n new d s lt step le room e = let enough = room s e in omega arith
  room_step (x ∷ logs) (suc i) (suc j) m n new d s lt step le room e = room_step logs i j m n new d s (omega arith) step le room e

  -- how much room is left, where one configuration was written again
  pub room_written : (logs : List (LogView M)) (i k m n : ℕ) (new d : LogView M) → i < length logs → (m ≤ (get_or logs i d).room → n ≤ new.room) → n ≤ m →
      RoomFor logs k m → RoomFor (set logs i new) k n
  room_written logs i zero m n new d lt step le room = λ s e. absurd (cc)
  room_written logs i (suc j) m n new d lt step le room = λ s e. room_step logs i j m n new d s lt step le room e

  -- the others have the room that they had
  room_beside : (logs : List (LogView M)) (i j n : ℕ) (new s : LogView M) → (i ≡ j → ⊥) → ((t : LogView M) → slice_get logs j ≡ Some t → n ≤ t.room) →
      slice_get (set logs i new) j ≡ Some s → n ≤ s.room
  room_beside [] i j n new s apart room e = room s e
  room_beside (x ∷ logs) zero zero n new s apart room e = absurd (apart refl)
  room_beside (x ∷ logs) zero (suc j) n new s apart room e = room s e
  room_beside (x ∷ logs) (suc i) zero n new s apart room e = room s e
  room_beside (x ∷ logs) (suc i) (suc j) n new s apart room e = room_beside logs i j n new s (λ same. apart (ap suc same)) room e

  room_elsewhere : (logs : List (LogView M)) (i k n : ℕ) (new : LogView M) → (suc i ≡ k → ⊥) → RoomFor logs k n → RoomFor (set logs i new) k n
  room_elsewhere logs i zero n new apart room = λ s e. absurd (cc)
  room_elsewhere logs i (suc j) n new apart room = λ s e. room_beside logs i j n new s (λ same. apart (ap suc same)) room e

  -- a place of a configuration was taken
  pub room_spent : (logs : List (LogView M)) (conf k n : ℕ) (new d : LogView M) → (conf ≡ 0 → ⊥) → conf ≤ length logs → (get_or logs (conf - 1) d).room ≤ new.room + 1 →
      RoomFor logs k ((if conf == k then 1 else 0) + n) → RoomFor (set logs (conf - 1) new) k n
  room_spent logs conf k n new d pos le step room = ⊎_elim
      (λ y.
      let spent : RoomFor logs k (suc n) = subst (λ m. RoomFor logs k m) (one-more (conf == k) n y) room in
      room_written logs (conf - 1) k (suc n) n new d (omega arith) (λ enough. omega arith) (omega arith) spent)
      (λ ne.
      let kept : RoomFor logs k n = subst (λ m. RoomFor logs k m) (none-more (conf == k) n ne) room in
      room_elsewhere logs (conf - 1) k n new (λ same. let apart = eqb-false conf k ne in apart (omega (arith, same))) kept)
      (cases_Bool (conf == k))

  -- the room of the configuration that was written
  room_there : (logs : List (LogView M)) (i n : ℕ) (new s : LogView M) → i < length logs → n ≤ new.room → slice_get (set logs i new) i ≡ Some s → n ≤ s.room
  room_there [] i n new s lt le e = absurd (omega arith)
  room_there (x ∷ logs) zero n new s lt le e = let same : new ≡ s = cc in subst (λ (t : LogView M). n ≤ t.room) same le
  room_there (x ∷ logs) (suc i) n new s lt le e = room_there logs i n new s (omega arith) le e

  pub room_made : {T E : Type 0} (r : Result T E) (logs : List (LogView M)) (conf n : ℕ) (new : LogView M) → (conf ≡ 0 → ⊥) → conf ≤ length logs →
      OnOk r (n ≤ new.room) → OnOk r (RoomFor (set logs (conf - 1) new) conf n)
  room_made (Ok x) logs conf n new pos le enough =
      let place : suc (conf - 1) ≡ conf = omega arith in
      subst (λ k. RoomFor (set logs (conf - 1) new) k n) place (λ s e. room_there logs (conf - 1) n new s (omega arith) enough e)
  room_made (Err x) logs conf n new pos le enough = tt

  pub room_nowhere : (logs : List (LogView M)) (conf n : ℕ) → conf ≡ 0 → RoomFor logs conf n
  room_nowhere logs conf n e = subst (λ k. RoomFor logs k n) (sym e) (λ s e. absurd (cc))

  -- the room of the element that stands there
  pub room_at : (logs : List (LogView M)) (conf n : ℕ) (d : LogView M) → (conf ≡ 0 → ⊥) → conf ≤ length logs → RoomFor logs conf n → n ≤ (get_or logs (conf - 1) d).room
  room_at logs conf n d pos le room =
      let place : suc (conf - 1) ≡ conf = omega arith in
      room (get_or logs (conf - 1) d) (ap (at_place logs) (sym place) ∙ slice_get-get_or logs (conf - 1) d (omega arith))
