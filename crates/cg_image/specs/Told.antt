-- What `inspect` tells of what is seen.
use Rattle.cg_image.specs.Inspecting.{Inspected, NotAnImage, NotAStore, Holds, entry_of_recovered}
use Rattle.cg_image.specs.declared.inspecting.Inspected.{Inspected as Told}
use Rattle.cg_image.specs.declared.inspecting.Inspected.TheVariants as told

abbrev pub told_of : Inspected → Told
told_of NotAnImage = told.NotAnImage
told_of NotAStore = told.NotAStore
told_of (Holds r) = told.Holds (entry_of_recovered r)
