-- Records of the newer format that say the same as those of the older one stand for the same.
use Rattle.std.proofs.Common.{◌≡◌, ℕ, zero, suc, ◌≤◌, ◌==◌, nat_lt, Bool, true, false, List, [], ◌∷◌, ◌++◌, take, fold, Option, Some, None, Result, Ok, Err, IfOk, OnOk, refl, sym, ◌∙◌, ap, subst, arith}
use Rattle.std.specs.Prelude.{slice_get, option_and_then, if◌then◌else◌}
use Rattle.std.specs.Option.{option_map}
use Rattle.cg_base.specs.Choice.{Either}
use Rattle.cg_codec.specs.Reading.{take_u64}
use Rattle.cg_disk.specs.declared.disk.Side.{Side}
use Rattle.cg_disk.specs.declared.disk.Side.TheVariants.{A, B}
use Rattle.cg_journal.specs.Records.{Records}
use Rattle.cg_journal.specs.Found.{Sides}
use Rattle.cg_journal.specs.declared.open.SideRecords.{SideRecords}
use Rattle.cg_records.specs.Reading.{take_number, take_prim, take_stable}
use Rattle.cg_disk_records.specs.declared.change.Change.{Change}
use Rattle.cg_disk_records.specs.Stored.{Stored}
use Rattle.cg_disk_records.specs.Reading.{change_reading, checkpoint_reading}
use Rattle.cg_disk_records.specs.Parts.{change_in, Saved, checkpoint_in}
use Rattle.cg_disk_records.specs.Following.{after_change}
use Rattle.cg_older.specs.Older.{old_change_in, old_checkpoint_in}
use Rattle.cg_store.specs.Stands.{Live, led_by_all, size_of, live_from, live_on, OnDisk, standing_on, chosen, standing_in}
use Rattle.cg_store.specs.Formats.{live_with, live_as, chosen_in}
use Rattle.cg_store.specs.Opening.{Finds}
use Rattle.cg_store.specs.Translated.{IsSameChange, IsSameCheckpoint, AreSameChanges, AreSame, IsInNewer, IsFoundOn, FindsOn}
use Rattle.cg_store.specs.declared.finding.OpenedSide.{OpenedSide}
use Rattle.cg_store.proofs.Owner.{standing-id}
use Rattle.std.proofs.lemmas.Option.{same_Some}

-- ---- no bytes are no record

pub none_change : change_in [] ≡ None
unfolding change_in change_reading take_stable take_prim take_number take_u64
none_change = refl

pub none_checkpoint : (id : ℕ) → checkpoint_in id [] ≡ None
unfolding checkpoint_in checkpoint_reading take_number take_u64
none_checkpoint id = refl

-- ---- one record more

change_at : (olds news : List (List ℕ)) (i : ℕ) (old new : List ℕ) → AreSameChanges (take i olds) news → slice_get olds i ≡ Some old → IsSameChange old new → AreSameChanges (take (suc i) olds) (news ++ new ∷ [])
change_at [] news i old new are at is = absurd (let clash : None ≡ Some old = at in cc)
change_at (first ∷ olds) [] zero old new are at is = (subst (λ x. IsSameChange x new) (sym (same_Some first old at)) is, tt)
change_at (first ∷ olds) (other ∷ news) zero old new are at is = absurd are
change_at (first ∷ olds) [] (suc i) old new are at is = absurd are
change_at (first ∷ olds) (other ∷ news) (suc i) old new are at is = (are.0, change_at olds news i old new are.1 at is)

pub same_at : (olds news : List (List ℕ)) (i : ℕ) (old new : List ℕ) → AreSame (take i olds) news → slice_get olds i ≡ Some old → 1 ≤ i → IsSameChange old new → AreSame (take (suc i) olds) (news ++ new ∷ [])
same_at [] news i old new are at some is = absurd (let clash : None ≡ Some old = at in cc)
same_at (first ∷ olds) news zero old new are at some is = absurd (omega (arith, some))
same_at (first ∷ olds) [] (suc i) old new are at some is = absurd are
same_at (first ∷ olds) (other ∷ news) (suc i) old new are at some is = (are.0, change_at olds news i old new are.1 at is)

pub same_first : (olds : List (List ℕ)) (old new : List ℕ) → slice_get olds 0 ≡ Some old → IsSameCheckpoint old new → AreSame (take 1 olds) (new ∷ [])
same_first [] old new at is = absurd (let clash : None ≡ Some old = at in cc)
same_first (first ∷ olds) old new at is = (subst (λ x. IsSameCheckpoint x new) (sym (same_Some first old at)) is, tt)

-- ---- what they stand for, but for the length of the side

abbrev change_if : Bool → List ℕ → Option Change
change_if older body = if older then old_change_in body else change_in body

abbrev all_if : Bool → Option Stored → List (List ℕ) → Option Stored
all_if older s bodies = fold (λ now body. option_and_then (λ x. option_and_then (after_change x) (change_if older body)) now) s bodies

abbrev live_if : Bool → ℕ → List (List ℕ) → Option Live
live_if older id [] = None
live_if older id (body ∷ changes) =
    option_map (λ first. record { generation = first.generation; size = size_of (body ∷ changes); content = all_if older (Some first.content) changes })
    (if older then old_checkpoint_in id body else checkpoint_in id body)

live_by : (id version : ℕ) (bodies : List (List ℕ)) → live_with id version bodies ≡ live_if (version == 1) id bodies
live_by id version [] = refl
live_by id version (body ∷ changes) = refl

live_else : (id : ℕ) (bodies : List (List ℕ)) → live_on id bodies ≡ live_if false id bodies
live_else id [] = refl
live_else id (body ∷ changes) = refl

abbrev sizeless : Live → Live
sizeless l = record { generation = l.generation; size = 0; content = l.content }

led_same : (olds news : List (List ℕ)) (s : Option Stored) → AreSameChanges olds news → led_by_all s news ≡ all_if true s olds
led_same [] [] s are = refl
led_same [] (new ∷ news) s are = absurd are
led_same (old ∷ olds) [] s are = absurd are
led_same (old ∷ olds) (new ∷ news) s are =
    (λ i. led_by_all (option_and_then (λ x. option_and_then (after_change x) (are.0 i)) s) news)
    ∙ led_same olds news (option_and_then (λ x. option_and_then (after_change x) (old_change_in old)) s) are.1

live_same : (id : ℕ) (olds news : List (List ℕ)) → AreSame olds news → option_map sizeless (live_on id news) ≡ option_map sizeless (live_if true id olds)
live_same id [] [] are = refl
live_same id [] (new ∷ news) are = absurd are
live_same id (old ∷ olds) [] are = absurd are
live_same id (old ∷ olds) (new ∷ news) are = (λ i. option_map sizeless (option_map (live_from (new ∷ news) news) (are.0 id i))) ∙ at (old_checkpoint_in id old)
  where
    at : (found : Option Saved) → option_map sizeless (option_map (live_from (new ∷ news) news) found)
        ≡ option_map sizeless (option_map (λ (first : Saved). record { generation = first.generation; size = size_of (old ∷ olds); content = all_if true (Some first.content) olds }) found)
    at None = refl
    at (Some first) = λ i. Some (record { generation = first.generation; size = 0; content = led_same olds news (Some first.content) are.1 i })

live_alike : (id : ℕ) (r : SideRecords) (bodies : List (List ℕ)) → IsInNewer r bodies → option_map sizeless (live_on id bodies) ≡ option_map sizeless (live_as id r)
live_alike id r bodies is = at (r.version == 1) is ∙ ap (option_map sizeless) (sym (live_by id r.version r.bodies))
  where
    at : (older : Bool) → Either older (AreSame r.bodies bodies) (bodies ≡ r.bodies) → option_map sizeless (live_on id bodies) ≡ option_map sizeless (live_if older id r.bodies)
    at true are = live_same id r.bodies bodies are
    at false same = ap (option_map sizeless) (live_else id bodies ∙ ap (live_if false id) same)

-- ---- the side in use

abbrev unmeasured : OnDisk → OnDisk
unmeasured u = record { side = u.side; generation = u.generation; size = 0; content = u.content }

standing_unmeasured : (side : Side) (l : Live) → option_map unmeasured (standing_on side l) ≡ standing_on side (sizeless l)
standing_unmeasured side l = at l.content
  where
    at : (content : Option Stored) → option_map unmeasured (option_map (λ s. record { side = side; generation = l.generation; size = l.size; content = s }) content)
        ≡ option_map (λ s. record { side = side; generation = l.generation; size = 0; content = s }) content
    at None = refl
    at (Some s) = refl

chosen_unmeasured : (a b : Option Live) → option_map unmeasured (chosen a b) ≡ chosen (option_map sizeless a) (option_map sizeless b)
chosen_unmeasured None None = refl
chosen_unmeasured (Some a) None = standing_unmeasured A a
chosen_unmeasured None (Some b) = standing_unmeasured B b
chosen_unmeasured (Some a) (Some b) = at (nat_lt a.generation b.generation)
  where
    at : (less : Bool) → option_map unmeasured (if less then standing_on B b else standing_on A a) ≡ (if less then standing_on B (sizeless b) else standing_on A (sizeless a))
    at true = standing_unmeasured B b
    at false = standing_unmeasured A a

abbrev in_records : List (List ℕ) → List (List ℕ) → Records
in_records a b = record { a = a; b = b }

chosen_alike : (id : ℕ) (s : Sides) (a b : List (List ℕ)) → IsInNewer s.a a → IsInNewer s.b b → option_map unmeasured (chosen_in id s) ≡ option_map unmeasured (standing_in id (in_records a b))
chosen_alike id s a b is_a is_b =
    chosen_unmeasured (live_as id s.a) (live_as id s.b)
    ∙ (λ i. chosen (sym (live_alike id s.a a is_a) i) (sym (live_alike id s.b b is_b) i))
    ∙ sym (chosen_unmeasured (live_on id a) (live_on id b))

-- ---- what is found

finds_on : (id : ℕ) (s : Sides) (a b : List (List ℕ)) → IsInNewer s.a a → IsInNewer s.b b → (found : Option OpenedSide) → Finds id (in_records a b) found → FindsOn id s found
finds_on id s a b is_a is_b None none = at (chosen_in id s) (chosen_alike id s a b is_a is_b ∙ ap (option_map unmeasured) none)
  where
    at : (x : Option OnDisk) → option_map unmeasured x ≡ None → x ≡ None
    at None e = refl
    at (Some u) e = absurd (let clash : Some (unmeasured u) ≡ None = e in cc)
finds_on id s a b is_a is_b (Some f) is = at (chosen_in id s) refl (chosen_alike id s a b is_a is_b ∙ ap (option_map unmeasured) is.stands)
  where
    there : OnDisk
    there = record { side = f.side; generation = f.generation; size = is.size; content = f.core }

    at : (x : Option OnDisk) → chosen_in id s ≡ x → option_map unmeasured x ≡ Some (unmeasured there) → IsFoundOn id s f
    at None e same = absurd (let clash : None ≡ Some (unmeasured there) = same in cc)
    at (Some u) e same =
        let like = same_Some (unmeasured u) (unmeasured there) same in
        record {
          size = u.size;
          stands = e ∙ (λ i. Some (record { side = (like i).side; generation = (like i).generation; size = u.size; content = (like i).content }));
          values = is.values;
          small = is.small;
          sound = is.sound;
          owner = standing-id id (Some (in_records a b)) there is.stands;
        }

pub if_ok_finds_on : (id : ℕ) (s : Sides) (a b : List (List ℕ)) → IsInNewer s.a a → IsInNewer s.b b → {E : Type 0} (r : Result (Option OpenedSide) E) → IfOk r (Finds id (in_records a b)) → IfOk r (FindsOn id s)
if_ok_finds_on id s a b is_a is_b (Ok found) is = finds_on id s a b is_a is_b found is
if_ok_finds_on id s a b is_a is_b (Err fault) is = tt

-- ---- what was put behind the others

pub pushed : {T E : Type 0} (r : Result T E) (P : List ℕ → Type 0) (old new : List (List ℕ)) → P [] → OnOk r (new ≡ old ++ [] ∷ []) → OnOk r ((x : List ℕ) × P x × (new ≡ old ++ x ∷ []))
pushed (Ok x) P old new is done = ([], is, done)
pushed (Err fault) P old new is done = tt
