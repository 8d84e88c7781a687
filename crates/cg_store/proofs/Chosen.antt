-- What the records of two sides stand for, found by their first records.
use Rattle.std.proofs.Common.{◌≡◌, ℕ, List, [], ◌∷◌, drop, Bool, true, false, Option, Some, None, Result, Ok, Err, IfOk, refl, sym, ◌∙◌, ap, subst}
use Rattle.std.specs.Prelude.{nat_lt, if◌then◌else◌}
use Rattle.std.specs.Option.{option_map}
use Rattle.cg_disk.specs.declared.disk.Side.{Side}
use Rattle.cg_disk.specs.declared.disk.Side.TheVariants.{A, B}
use Rattle.cg_journal.specs.Records.{Records, on_side}
use Rattle.cg_disk_records.specs.Parts.{Saved, saved_in, stored_in}
use Rattle.cg_disk_records.specs.declared.checkpoint.Checkpoint.{Checkpoint}
use Rattle.cg_disk_records.specs.Always.{AlwaysHolds}
use Rattle.cg_store.specs.Stands.{size_of, live_from, live_on, OnDisk, standing_on, chosen}
use Rattle.cg_store.specs.Opening.{first_on, FindsFirst, IsLater, live_of, IsChosen, Replays, Finds}
use Rattle.cg_store.specs.declared.finding.OpenedSide.{OpenedSide}
use Rattle.cg_store.proofs.Sound.{stored-sound, led_all-sound}

live_by_first : (id : ℕ) (bodies : List (List ℕ)) → live_on id bodies ≡ option_map (live_from bodies (drop 1 bodies)) (first_on id bodies)
live_by_first id [] = refl
live_by_first id (body ∷ changes) = refl

live_some : (id : ℕ) (bodies : List (List ℕ)) (p : Checkpoint) → FindsFirst id bodies (Some p) → live_on id bodies ≡ Some (live_of id bodies p)
live_some id bodies p finds = live_by_first id bodies ∙ ap (option_map (live_from bodies (drop 1 bodies))) finds.0

abbrev of_two : List (List ℕ) → List (List ℕ) → Records
of_two a b = record { a = a; b = b }

is_a : (less : Bool) (x y : Option OnDisk) → A ≡ (if less then B else A) → (if less then x else y) ≡ y
is_a true x y is = cc
is_a false x y is = refl

is_b : (less : Bool) (x y : Option OnDisk) → B ≡ (if less then B else A) → (if less then x else y) ≡ x
is_b true x y is = refl
is_b false x y is = cc

live_at : (id : ℕ) (bodies : List (List ℕ)) (o : Option Saved) → first_on id bodies ≡ o → live_on id bodies ≡ option_map (live_from bodies (drop 1 bodies)) o
live_at id bodies o is = live_by_first id bodies ∙ ap (option_map (live_from bodies (drop 1 bodies))) is

in_a : (id : ℕ) (a b : List (List ℕ)) (p : Checkpoint) (o : Option Saved) → first_on id b ≡ o → FindsFirst id a (Some p) → IsLater a b A → chosen (Some (live_of id a p)) (live_on id b) ≡ standing_on A (live_of id a p)
in_a id a b p None is finds later = ap (chosen (Some (live_of id a p))) (live_at id b None is)
in_a id a b p (Some t) is finds later =
    ap (chosen (Some (live_of id a p))) (live_at id b (Some t) is) ∙ is_a (nat_lt p.generation t.generation) _ _ (later id (saved_in id p) t finds.0 is)

in_b : (id : ℕ) (a b : List (List ℕ)) (p : Checkpoint) (o : Option Saved) → first_on id a ≡ o → FindsFirst id b (Some p) → IsLater a b B → chosen (live_on id a) (Some (live_of id b p)) ≡ standing_on B (live_of id b p)
in_b id a b p None is finds later = ap (λ x. chosen x (Some (live_of id b p))) (live_at id a None is)
in_b id a b p (Some s) is finds later =
    ap (λ x. chosen x (Some (live_of id b p))) (live_at id a (Some s) is) ∙ is_b (nat_lt s.generation p.generation) _ _ (later id s (saved_in id p) is finds.0)

-- the later side begins with a checkpoint
pub chosen_later : (id : ℕ) (a b : List (List ℕ)) (side : Side) (p : Checkpoint) → IsLater a b side → FindsFirst id (on_side side (of_two a b)) (Some p) → IsChosen id (of_two a b) side p
chosen_later id a b A p later finds = record { saved = finds.1; standing = ap (λ x. chosen x (live_on id b)) (live_some id a p finds) ∙ in_a id a b p (first_on id b) refl finds later }
chosen_later id a b B p later finds = record { saved = finds.1; standing = ap (chosen (live_on id a)) (live_some id b p finds) ∙ in_b id a b p (first_on id a) refl finds later }

-- what its records stand for
pub replayed_finds : AlwaysHolds → (id : ℕ) (r : Records) (side : Side) (first : Checkpoint) (found : Option OpenedSide) → IsChosen id r side first → Replays id side first (drop 1 (on_side side r)) found → Finds id r found
replayed_finds always id r side first None chose none =
    chose.standing ∙ ap (option_map (λ s. record { side = side; generation = first.generation; size = size_of (on_side side r); content = s })) none
replayed_finds always id r side first (Some f) chose is = record {
  size = size_of (on_side side r);
  stands = chose.standing
      ∙ ap (option_map (λ s. record { side = side; generation = first.generation; size = size_of (on_side side r); content = s })) is.leads
      ∙ (λ i. Some (record { side = sym is.side_is i; generation = sym is.generation_is i; size = size_of (on_side side r); content = f.core }));
  values = is.values;
  small = is.small;
  sound = led_all-sound always (stored_in id first) f.core (drop 1 (on_side side r)) (stored-sound always (stored_in id first) chose.saved.fits.agrees chose.saved.stored) is.leads;
}

pub if_ok_finds : AlwaysHolds → (id : ℕ) (r : Records) (side : Side) (first : Checkpoint) (changes : List (List ℕ)) (E : Type 0) (result : Result (Option OpenedSide) E) → IsChosen id r side first → changes ≡ drop 1 (on_side side r) →
    IfOk result (Replays id side first changes) → IfOk result (Finds id r)
if_ok_finds always id r side first changes E (Ok found) chose same is = replayed_finds always id r side first found chose (subst (λ c. Replays id side first c found) same is)
if_ok_finds always id r side first changes E (Err e) chose same is = tt
