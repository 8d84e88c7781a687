-- What a command comes to that puts the image of a replica's disk.
use Rattle.std.proofs.Common.{◌≡◌, ℕ, List, [], ◌∷◌, ◌++◌, take, Option, Some, None, refl, sym, ap, subst, ◌∙◌}
use Rattle.std.specs.Io.KnownBytes.{Appends}
use Rattle.cg_io.specs.Outside.{SourceView, SinkView, PutsAll}
use Rattle.cg_items.specs.declared.companion.Companion.TheVariants.{Imaging}
use Rattle.cg_items.specs.declared.report.Report.TheVariants.{Imaged}
use Rattle.cg_items.specs.Items.{Item, report_in}
use Rattle.cg_model.specs.World.{World}
use Rattle.cg_outcome.specs.declared.command.Command.TheVariants.{Image}
use Rattle.cg_outcome.specs.declared.status.Status.{Status}
use Rattle.cg_outcome.specs.declared.status.Status.TheVariants as status
use Rattle.cg_outcome.specs.GoingOnLaws.{Appends-twice, Puts-twice, part-later}
use Rattle.cg_outcome.specs.NearLaws.{Runs-near}
use Rattle.cg_outcome.specs.Outcome.{Open, image_end, imaged_text, text_put}
use Rattle.cg_outcome.specs.Produced.{Finding, Produced, end_in, text_of, status_of, with_tail}
use Rattle.cg_outcome.specs.Putting.{Puts, StopsWith}
use Rattle.cg_outcome.specs.SparedLaws.{read-cause}
use Rattle.cg_outcome.specs.Stopping.{EndsShort}
use Rattle.cg_outcome.specs.StreamLaws.{grown}
use Rattle.cg_outcome.specs.Streaming.{Replays, first_stage, from_stage}
use Rattle.cg_outcome.specs.Taking.{IsImageAt, InTime, ReadCause, Runs}

-- items put nothing
silent : (items : List Item) → report_in Imaged items ≡ []
silent [] = refl
silent (i ∷ items) = silent items

-- without an image this is the text of a report that has no items
pub imaged-plain : (p : Produced) → text_of Imaged p ≡ imaged_text [] p
imaged-plain p = ap (λ put. with_tail Imaged put p.found p.progress) (silent p.items) ∙ by_finding p.found where
  by_status : (st : Status) (lines : ℕ) → end_in Imaged st lines p.progress ≡ image_end [] st lines p.progress.count
  by_status status.Done lines = refl
  by_status other lines = refl

  by_finding : (o : Option Finding) → with_tail Imaged [] o p.progress ≡
      imaged_text [] (record p { found = o })
  by_finding None = refl
  by_finding (Some f) = by_status f.status f.lines

-- where the run is done it is the image
pub imaged-done : (image : List ℕ) (p : Produced) → status_of p ≡ Some status.Done → imaged_text image p ≡ image
imaged-done image p is = by_finding p.found is where
  by_finding : (o : Option Finding) → status_of (record p { found = o }) ≡ Some status.Done →
      imaged_text image (record p { found = o }) ≡ image
  by_finding None e = cc
  by_finding (Some f) e =
      let done : f.status ≡ status.Done = cc in
      ap (λ (st : Status). image_end image st f.lines p.progress.count) done

-- a part that finds nothing puts nothing
imaged-none : (image : List ℕ) (p : Produced) → p.found ≡ None → imaged_text image p ≡ []
imaged-none image p none = rw none refl

-- the image was put behind nothing
pub StopsWith-later : (v v1 v2 : SinkView) (text image : List ℕ) (found : Option Status) (st : Status) → text ≡ [] →
    Puts v v1 text → found ≡ Some status.Done → StopsWith image (Some status.Done) v1 v2 st → StopsWith image found v v2 st
StopsWith-later v v1 v2 text image found status.WriteFault none put is ends =
    subst (λ t. StopsWith (t ++ image) found v v2 status.WriteFault) none (part-later v v1 v2 text image 1 put ends)
StopsWith-later v v1 v2 text image found status.NoMemory none put is ends =
    subst (λ t. StopsWith (t ++ image) found v v2 status.NoMemory) none (part-later v v1 v2 text image 0 put ends)
StopsWith-later v v1 v2 text image found other none put is ends =
    (is ∙ ends.0, subst (λ t. Puts v v2 (t ++ image)) none (Puts-twice v v1 v2 text image put ends.1))

module _ (q : ℕ) (old new : SourceView) (v v1 v2 : SinkView) (left : Option World) (first last : Status)
    (r : Replays Imaged (Imaging q) old new v v1 left first) (image : List ℕ) where
  abbrev pub end : Produced
  end = from_stage (first_stage (Imaging q)) r.taken r.ending

  -- what was put goes on to be put, whatever that is
  in-time : (more : List ℕ) → Appends v1.held v2.held more →
      InTime (text_put (Some (Image q)) image) (λ front. from_stage (first_stage (Imaging q)) front Open) r.taken v v2
  in-time more put m le =
      let before = r.holds.2 m le in
      let front = from_stage (first_stage (Imaging q)) (take m r.taken) Open in
      let some = grown (text_of Imaged end) (status_of end) v v1 first r.holds.1.0 in (
        before.0,
        some.0 ++ more,
        subst (λ text. PutsAll v v2 (text ++ (some.0 ++ more))) (sym (imaged-none image front before.0))
            (Appends-twice v.held v1.held v2.held some.0 more some.1 put),
      )

  pub image-runs : IsImageAt last q end.progress.world image →
      StopsWith (imaged_text image end) (status_of end) v v2 last → EndsShort end last → (more : List ℕ) →
      Appends v1.held v2.held more → Runs (Some (Image q)) old new v v2 last
  image-runs is ends short more put = Runs-near (Some (Image q)) image old new v v2 last (record {
    taken = r.taken;
    ending = r.ending;
    consumed = r.consumed;
    cause = r.cause;
    holds = (r.holds.0, is, ends, in-time more put, λ reads. short);
  })

  pub image-cause : StopsWith (imaged_text image end) (status_of end) v v2 last → ReadCause old new last
  image-cause ends = read-cause (Some (Image q)) image r.taken r.ending old new v v2 last r.cause r.holds.3 ends
