use Rattle.cg_image.proofs.laws.images_show_their_replica.Goals as goal
use Rattle.cg_image.specs.InspectingLaws.{images_show}

pub returns : goal.returns
returns c = images_show
