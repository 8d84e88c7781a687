-- A disk with the newer header on both sides stands for the same in both accounts.
use Rattle.std.proofs.Common.{◌≡◌, ℕ, List, [], ◌∷◌, Option, Some, None, refl, sym, ◌∙◌, ap}
use Rattle.std.specs.Prelude.{option_and_then}
use Rattle.std.specs.Option.{option_map}
use Rattle.cg_disk.specs.Sides.{Image, opposite}
use Rattle.cg_disk.specs.declared.disk.Side.{Side}
use Rattle.cg_disk.specs.declared.disk.Side.TheVariants.{A, B}
use Rattle.cg_journal.specs.Records.{Records, records}
use Rattle.cg_journal.specs.Found.{found_at, front_on}
use Rattle.cg_journal.specs.FoundLaws.{as_sides, sides_newer, front_newer}
use Rattle.cg_disk_records.specs.Format.{Format, Newer, all_newer}
use Rattle.cg_store.specs.Stands.{OnDisk, Stands, live_on, chosen, standing_in}
use Rattle.cg_store.specs.Formats.{Standing, live_with, format_of, with_format, standing_of, standing_on_disk, StandsFor, newer}

-- the format of such a disk, whichever side is in use
format_newer : (side : Side) (image : Image) (r : Records) → records image ≡ Some r →
    format_of (found_at side (as_sides r)).version (front_on (opposite side) image) ≡ all_newer
format_newer A image r is = ap Newer (front_newer B image r is)
format_newer B image r is = ap Newer (front_newer A image r is)

-- what stands on its sides
pub same_live : (id : ℕ) (bodies : List (List ℕ)) → live_on id bodies ≡ live_with id 2 bodies
same_live id [] = refl
same_live id (body ∷ changes) = refl

-- the disk stands for the same
pub stands_newer : (id : ℕ) (image : Image) (u : OnDisk) → Stands id image u → StandsFor id image (newer u)
unfolding standing_on_disk
stands_newer id image u stands = at (records image) refl stands
  where
    none_stands : None ≡ Some u → ⊥
    none_stands e = cc

    at : (found : Option Records) → records image ≡ found → option_and_then (standing_in id) found ≡ Some u →
        StandsFor id image (newer u)
    at None e is = absurd (none_stands is)
    at (Some r) e is =
        let live : chosen (live_with id 2 r.a) (live_with id 2 r.b) ≡ Some u =
        sym (λ i. chosen (same_live id r.a i) (same_live id r.b i)) ∙ is in
        ap (option_and_then (standing_of id image)) (sides_newer image r e)
        ∙ ap (option_map (with_format image (as_sides r))) live
        ∙ ap (λ (f : Format). Some (let s : Standing = record { on = u; format = f } in s))
        (format_newer u.side image r e)
