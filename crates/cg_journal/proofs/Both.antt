-- The records of both sides, from those of one.
use Rattle.std.proofs.Common.{◌≡◌, ℕ, List, [], ◌∷◌, ◌++◌, Option, Some, None, refl, sym, ◌∙◌}
use Rattle.std.specs.Option.{option_map}
use Rattle.cg_disk.specs.Sides.{Image, bytes_of, opposite}
use Rattle.cg_disk.specs.Writes.{overwritten}
use Rattle.cg_disk.specs.declared.disk.Side.{Side}
use Rattle.cg_disk.specs.declared.disk.Side.TheVariants.{A, B}
use Rattle.cg_journal.specs.Records.{records, both, bodies_of, added, emptied}
use Rattle.cg_journal.specs.Put.{put_on}

pub put_this : (side : Side) (offset : ℕ) (bytes : List ℕ) (image : Image) → bytes_of side (put_on side offset bytes image) ≡ overwritten (bytes_of side image) offset bytes
put_this A offset bytes image = refl
put_this B offset bytes image = refl

pub put_other : (side : Side) (offset : ℕ) (bytes : List ℕ) (image : Image) → bytes_of (opposite side) (put_on side offset bytes image) ≡ bytes_of (opposite side) image
put_other A offset bytes image = refl
put_other B offset bytes image = refl

pub records_same : (side : Side) (c old : Image) → bytes_of (opposite side) c ≡ bytes_of (opposite side) old → bodies_of (bytes_of side c) ≡ bodies_of (bytes_of side old) → records c ≡ records old
records_same A c old other this = λ i. both (this i) (bodies_of (other i))
records_same B c old other this = λ i. both (bodies_of (other i)) (this i)

both_added_a : (bs : List (List ℕ)) (body : List ℕ) (o : Option (List (List ℕ))) → both (Some (bs ++ body ∷ [])) o ≡ option_map (added A body) (both (Some bs) o)
both_added_a bs body None = refl
both_added_a bs body (Some b) = refl

both_added_b : (bs : List (List ℕ)) (body : List ℕ) (o : Option (List (List ℕ))) → both o (Some (bs ++ body ∷ [])) ≡ option_map (added B body) (both o (Some bs))
both_added_b bs body None = refl
both_added_b bs body (Some a) = refl

pub records_added : (side : Side) (c old : Image) (bs : List (List ℕ)) (body : List ℕ) → bytes_of (opposite side) c ≡ bytes_of (opposite side) old → bodies_of (bytes_of side c) ≡ Some (bs ++ body ∷ []) → bodies_of (bytes_of side old) ≡ Some bs → records c ≡ option_map (added side body) (records old)
records_added A c old bs body other this was = (λ i. both (this i) (bodies_of (other i))) ∙ both_added_a bs body (bodies_of old.b) ∙ (λ i. option_map (added A body) (both (sym was i) (bodies_of old.b)))
records_added B c old bs body other this was = (λ i. both (bodies_of (other i)) (this i)) ∙ both_added_b bs body (bodies_of old.a) ∙ (λ i. option_map (added B body) (both (bodies_of old.a) (sym was i)))

both_emptied_a : (bs : List (List ℕ)) (o : Option (List (List ℕ))) → both (Some []) o ≡ option_map (emptied A) (both (Some bs) o)
both_emptied_a bs None = refl
both_emptied_a bs (Some b) = refl

both_emptied_b : (bs : List (List ℕ)) (o : Option (List (List ℕ))) → both o (Some []) ≡ option_map (emptied B) (both o (Some bs))
both_emptied_b bs None = refl
both_emptied_b bs (Some a) = refl

pub records_emptied : (side : Side) (c old : Image) (bs : List (List ℕ)) → bytes_of (opposite side) c ≡ bytes_of (opposite side) old → bodies_of (bytes_of side c) ≡ Some [] → bodies_of (bytes_of side old) ≡ Some bs → records c ≡ option_map (emptied side) (records old)
records_emptied A c old bs other this was = (λ i. both (this i) (bodies_of (other i))) ∙ both_emptied_a bs (bodies_of old.b) ∙ (λ i. option_map (emptied A) (both (sym was i) (bodies_of old.b)))
records_emptied B c old bs other this was = (λ i. both (bodies_of (other i)) (this i)) ∙ both_emptied_b bs (bodies_of old.a) ∙ (λ i. option_map (emptied B) (both (bodies_of old.a) (sym was i)))
