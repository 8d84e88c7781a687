-- What the records of a disk stand for when one is added, and when a side begins anew.
use Rattle.std.proofs.Common.{◌≡◌, ℕ, suc, ◌+◌, List, [], ◌∷◌, ◌++◌, length, length-append, fold, Bool, true, false, Option, Some, None, refl, sym, ◌∙◌, ap, subst, arith}
use Rattle.std.specs.Prelude.{nat_lt, option_and_then, if◌then◌else◌}
use Rattle.std.specs.Option.{option_map}
use Rattle.std.proofs.lemmas.List.Sums.{fold-append}
use Rattle.std.proofs.lemmas.Bool.Decides.{nat_tests}
use Rattle.cg_disk.specs.Sides.{Image, opposite}
use Rattle.cg_disk.specs.declared.disk.Side.{Side}
use Rattle.cg_disk.specs.declared.disk.Side.TheVariants.{A, B}
use Rattle.cg_codec.specs.Fields.{number32}
use Rattle.cg_journal.specs.Records.{Records, records, spelled, added, emptied, on_side}
use Rattle.cg_journal.specs.Held.{end_of}
use Rattle.cg_journal.specs.Opens.{no_records}
use Rattle.cg_disk_records.specs.Stored.{Stored}
use Rattle.cg_disk_records.specs.Checkpoint.{size_with, empty_size}
use Rattle.cg_disk_records.specs.Parts.{Saved, checkpoint_in}
use Rattle.cg_store.specs.Stands.{led_by, led_by_all, size_of, Live, live_from, live_on, OnDisk, standing_on, chosen, standing_in, stands_for, led, moved, begun}
use Rattle.cg_codec.specs.PlainLaws.{length-number32}

-- a side of this generation comes before the other one
abbrev Leads : Side → ℕ → Option Live → Type 0
Leads side generation None = Unit {0}
Leads A generation (Some b) = nat_lt generation b.generation ≡ false
Leads B generation (Some a) = nat_lt a.generation generation ≡ true

-- the one of two that is of this side
abbrev of_side : Side → Option Live → Option Live → Option Live
of_side A a b = a
of_side B a b = b

-- a side is in use, and stands for this
record InUse (side : Side) (a b : Option Live) (u : OnDisk) : Type 0 where
  live : Live
  is : of_side side a b ≡ Some live
  leads : Leads side live.generation (of_side (opposite side) a b)
  stands : standing_on side live ≡ Some u

-- what a side stands for has its parts
record HasParts (side : Side) (generation size : ℕ) (content : Option Stored) (u : OnDisk) : Type 0 where
  side_is : side ≡ u.side
  generation_is : generation ≡ u.generation
  size_is : size ≡ u.size
  content_is : content ≡ Some u.content

has_parts : (side : Side) (generation size : ℕ) (content : Option Stored) (u : OnDisk) →
    option_map (λ s. record { side = side; generation = generation; size = size; content = s }) content ≡ Some u → HasParts side generation size content u
has_parts side generation size None u is = cc
has_parts side generation size (Some s) u is =
    let same : record { side = side; generation = generation; size = size; content = s } ≡ u = cc in
    record { side_is = λ i. (same i).side; generation_is = λ i. (same i).generation; size_is = λ i. (same i).size; content_is = λ i. Some ((same i).content) }

parts_on : (side : Side) (l : Live) (u : OnDisk) → standing_on side l ≡ Some u → HasParts side l.generation l.size l.content u
parts_on side l u is = has_parts side l.generation l.size l.content u is

-- the side in use
use_of_both : (a b : Live) (u : OnDisk) (later : Bool) → nat_lt a.generation b.generation ≡ later → (if later then standing_on B b else standing_on A a) ≡ Some u →
    (side : Side) × InUse side (Some a) (Some b) u
use_of_both a b u true e is = (B, record { live = b; is = refl; leads = e; stands = is })
use_of_both a b u false e is = (A, record { live = a; is = refl; leads = e; stands = is })

use_of : (a b : Option Live) (u : OnDisk) → chosen a b ≡ Some u → (side : Side) × InUse side a b u
use_of None None u is = cc
use_of (Some a) None u is = (A, record { live = a; is = refl; leads = tt; stands = is })
use_of None (Some b) u is = (B, record { live = b; is = refl; leads = tt; stands = is })
use_of (Some a) (Some b) u is = use_of_both a b u (nat_lt a.generation b.generation) refl is

in_use : (id : ℕ) (r : Records) (u : OnDisk) → standing_in id r ≡ Some u → InUse u.side (live_on id r.a) (live_on id r.b) u
in_use id r u is =
    let found = use_of (live_on id r.a) (live_on id r.b) u is in
    subst (λ side. InUse side (live_on id r.a) (live_on id r.b) u) (parts_on found.0 found.1.live u found.1.stands).side_is found.1

-- the side that leads is in use
leads_chosen : (side : Side) (l : Live) (a b : Option Live) → of_side side a b ≡ Some l → Leads side l.generation (of_side (opposite side) a b) → chosen a b ≡ standing_on side l
leads_chosen A l (Some a) None is leads = let same : a ≡ l = cc in ap (standing_on A) same
leads_chosen A l (Some a) (Some b) is leads =
    let same : a ≡ l = cc in
    subst (λ x. chosen (Some x) (Some b) ≡ standing_on A l) (sym same) (rw leads refl)
leads_chosen A l None b is leads = cc
leads_chosen B l None (Some b) is leads = let same : b ≡ l = cc in ap (standing_on B) same
leads_chosen B l (Some a) (Some b) is leads =
    let same : b ≡ l = cc in
    subst (λ x. chosen (Some a) (Some x) ≡ standing_on B l) (sym same) (rw leads refl)
leads_chosen B l a None is leads = cc

-- ---- one record more on the side in use

abbrev step : Option Stored → List ℕ → Option Stored
step now body = option_and_then (λ x. led_by x body) now

led_further : (first : Stored) (changes : List (List ℕ)) (body : List ℕ) (s t : Stored) → led_by_all (Some first) changes ≡ Some s → led_by s body ≡ Some t →
    led_by_all (Some first) (changes ++ body ∷ []) ≡ Some t
led_further first changes body s t so_far led = fold-append step (Some first) changes (body ∷ []) ∙ ap (λ now. step now body) so_far ∙ led

size_further : (bodies : List (List ℕ)) (body : List ℕ) → size_of (bodies ++ body ∷ []) ≡ size_with (size_of bodies) body
size_further bodies body = fold-append size_with empty_size bodies (body ∷ [])

abbrev live_with : ℕ → ℕ → Stored → Live
live_with generation size s = record { generation = generation; size = size; content = Some s }

live_further : (id : ℕ) (bodies : List (List ℕ)) (body : List ℕ) (l : Live) (u : OnDisk) (t : Stored) → live_on id bodies ≡ Some l → standing_on u.side l ≡ Some u → led_by u.content body ≡ Some t →
    live_on id (bodies ++ body ∷ []) ≡ Some (live_with u.generation (size_with u.size body) t)
live_further id [] body l u t is stands led = cc
live_further id (first ∷ changes) body l u t is stands led = at (checkpoint_in id first) is
  where
    at : (saved : Option Saved) → option_map (live_from (first ∷ changes) changes) saved ≡ Some l →
        option_map (live_from (first ∷ (changes ++ body ∷ [])) (changes ++ body ∷ [])) saved ≡ Some (live_with u.generation (size_with u.size body) t)
    at None is = cc
    at (Some saved) is =
        let same : live_from (first ∷ changes) changes saved ≡ l = cc in
        let parts = parts_on u.side l u stands in
        let generation : saved.generation ≡ u.generation = ap (λ (x : Live). x.generation) same ∙ parts.generation_is in
        let size : size_of (first ∷ (changes ++ body ∷ [])) ≡ size_with u.size body =
        size_further (first ∷ changes) body ∙ ap (λ n. size_with n body) (ap (λ (x : Live). x.size) same ∙ parts.size_is) in
        let content : led_by_all (Some saved.content) (changes ++ body ∷ []) ≡ Some t =
        led_further saved.content changes body u.content t (ap (λ (x : Live). x.content) same ∙ parts.content_is) led in
        λ i. Some (record { generation = generation i; size = size i; content = content i })

added_on : (side : Side) (id : ℕ) (r : Records) (body : List ℕ) (l : Live) → live_on id (on_side side r ++ body ∷ []) ≡ Some l →
    Leads side l.generation (of_side (opposite side) (live_on id r.a) (live_on id r.b)) → standing_in id (added side body r) ≡ standing_on side l
added_on A id r body l is leads = leads_chosen A l (live_on id (r.a ++ body ∷ [])) (live_on id r.b) is leads
added_on B id r body l is leads = leads_chosen B l (live_on id r.a) (live_on id (r.b ++ body ∷ [])) is leads

on_of : (side : Side) (id : ℕ) (r : Records) → of_side side (live_on id r.a) (live_on id r.b) ≡ live_on id (on_side side r)
on_of A id r = refl
on_of B id r = refl

standing_added : (id : ℕ) (r : Records) (body : List ℕ) (u : OnDisk) (t : Stored) → standing_in id r ≡ Some u → led_by u.content body ≡ Some t →
    standing_in id (added u.side body r) ≡ Some (led u body t)
standing_added id r body u t is goes =
    let here = in_use id r u is in
    let l = live_with u.generation (size_with u.size body) t in
    let on = live_further id (on_side u.side r) body here.live u t (sym (on_of u.side id r) ∙ here.is) here.stands goes in
    let leads = subst (λ g. Leads u.side g (of_side (opposite u.side) (live_on id r.a) (live_on id r.b))) (parts_on u.side here.live u here.stands).generation_is here.leads in
    added_on u.side id r body l on leads

pub stands_added : (id : ℕ) (found : Option Records) (body : List ℕ) (u : OnDisk) (t : Stored) → stands_for id found ≡ Some u → led_by u.content body ≡ Some t →
    stands_for id (option_map (added u.side body) found) ≡ Some (led u body t)
stands_added id None body u t is goes = cc
stands_added id (Some r) body u t is goes = standing_added id r body u t is goes

-- ---- the other side begins anew

emptied_on : (side : Side) (id : ℕ) (r : Records) (u : OnDisk) → InUse side (live_on id r.a) (live_on id r.b) u → standing_in id (emptied (opposite side) r) ≡ Some u
emptied_on A id r u here = leads_chosen A here.live (live_on id r.a) None here.is tt ∙ here.stands
emptied_on B id r u here = leads_chosen B here.live None (live_on id r.b) here.is tt ∙ here.stands

pub stands_emptied : (id : ℕ) (found : Option Records) (u : OnDisk) → stands_for id found ≡ Some u → stands_for id (option_map (emptied (opposite u.side)) found) ≡ Some u
stands_emptied id None u is = cc
stands_emptied id (Some r) u is = emptied_on u.side id r u (in_use id r u is)

-- a checkpoint alone on a side
live_alone : (id generation : ℕ) (body : List ℕ) (s : Stored) → checkpoint_in id body ≡ Some (record { generation = generation; content = s }) →
    live_on id (body ∷ []) ≡ Some (live_with generation (size_with empty_size body) s)
live_alone id generation body s is = ap (option_map (live_from (body ∷ []) [])) is

lead_next : (side : Side) (l : Live) (g : ℕ) → l.generation ≡ g → Leads (opposite side) (suc g) (Some l)
lead_next A l g is = let less : nat_lt l.generation (suc g) ≡ true = grind (arith, nat_tests) in less
lead_next B l g is = let not_less : nat_lt (suc g) l.generation ≡ false = grind (arith, nat_tests) in not_less

alone_on : (side : Side) (id generation : ℕ) (r : Records) (body : List ℕ) (l new : Live) → of_side side (live_on id r.a) (live_on id r.b) ≡ Some l → live_on id (body ∷ []) ≡ Some new →
    Leads (opposite side) new.generation (Some l) → standing_in id (added (opposite side) body (emptied (opposite side) r)) ≡ standing_on (opposite side) new
alone_on A id generation r body l new was is leads = leads_chosen B new (live_on id r.a) (live_on id (body ∷ [])) is (subst (λ x. Leads B new.generation x) (sym was) leads)
alone_on B id generation r body l new was is leads = leads_chosen A new (live_on id (body ∷ [])) (live_on id r.b) is (subst (λ x. Leads A new.generation x) (sym was) leads)

pub stands_moved : (id : ℕ) (found : Option Records) (body : List ℕ) (u : OnDisk) → stands_for id found ≡ Some u → checkpoint_in id body ≡ Some (record { generation = suc u.generation; content = u.content }) →
    stands_for id (option_map (added (opposite u.side) body) (option_map (emptied (opposite u.side)) found)) ≡ Some (moved u body)
stands_moved id None body u is saved = cc
stands_moved id (Some r) body u is saved =
    let here = in_use id r u is in
    let new = live_with (suc u.generation) (size_with empty_size body) u.content in
    alone_on u.side id (suc u.generation) r body here.live new here.is (live_alone id (suc u.generation) body u.content saved)
    (lead_next u.side here.live u.generation (parts_on u.side here.live u here.stands).generation_is)

-- ---- a new disk

pub stands_begun : (id : ℕ) (body : List ℕ) (s : Stored) → checkpoint_in id body ≡ Some (record { generation = 1; content = s }) →
    stands_for id (option_map (added A body) (Some no_records)) ≡ Some (begun body s)
stands_begun id body s is = leads_chosen A (live_with 1 (size_with empty_size body) s) (live_on id (body ∷ [])) None (live_alone id 1 body s is) tt

-- ---- the parts of what a disk stands for

-- the records of the side in use
pub record HasSide (id : ℕ) (r : Records) (u : OnDisk) : Type 0 where
  pub bodies : List (List ℕ)
  pub live : Live
  pub are : bodies ≡ on_side u.side r
  pub on : live_on id bodies ≡ Some live
  pub content : live.content ≡ Some u.content
  pub size : live.size ≡ u.size

pub standing_parts : (id : ℕ) (r : Records) (u : OnDisk) → standing_in id r ≡ Some u → HasSide id r u
standing_parts id r u is =
    let here = in_use id r u is in
    let parts = parts_on u.side here.live u here.stands in
    record {
      bodies = on_side u.side r;
      live = here.live;
      are = refl;
      on = sym (on_of u.side id r) ∙ here.is;
      content = parts.content_is;
      size = parts.size_is;
    }

live_size : (id : ℕ) (bodies : List (List ℕ)) (l : Live) → live_on id bodies ≡ Some l → l.size ≡ size_of bodies
live_size id [] l is = cc
live_size id (first ∷ changes) l is = at (checkpoint_in id first) is where
  at : (found : Option Saved) → option_map (live_from (first ∷ changes) changes) found ≡ Some l → l.size ≡ size_of (first ∷ changes)
  at None is = cc
  at (Some x) is = let same : live_from (first ∷ changes) changes x ≡ l = cc in sym (ap (λ (y : Live). y.size) same)

-- the length of the side in use
pub standing_size : (id : ℕ) (r : Records) (u : OnDisk) → standing_in id r ≡ Some u → u.size ≡ size_of (on_side u.side r)
standing_size id r u is =
    let parts = standing_parts id r u is in
    sym parts.size ∙ live_size id parts.bodies parts.live parts.on ∙ ap size_of parts.are

size_on : (n : ℕ) (bodies : List (List ℕ)) → fold size_with n bodies ≡ n + length (spelled bodies)
size_on n [] = omega arith
size_on n (body ∷ bodies) =
    let more : fold size_with (size_with n body) bodies ≡ size_with n body + length (spelled bodies) = size_on (size_with n body) bodies in
    omega (arith, more, length-append (number32 (length body) ++ body) (spelled bodies), length-append (number32 (length body)) body, length-number32 (length body))

-- as the journal says
pub size_is_end : (bodies : List (List ℕ)) → size_of bodies ≡ end_of bodies
size_is_end bodies = size_on empty_size bodies

pub stands_end : (id : ℕ) (image : Image) (u : OnDisk) (side : Side) (length : ℕ) → stands_for id (records image) ≡ Some u → u.side ≡ side →
    ((r : Records) → records image ≡ Some r → length ≡ end_of (on_side side r)) → length ≡ u.size
stands_end id image u side length stands same ends = at (records image) refl stands
  where
    at : (found : Option Records) → records image ≡ found → stands_for id found ≡ Some u → length ≡ u.size
    at None e is = cc
    at (Some r) e is =
        ends r e ∙ sym (size_is_end (on_side side r)) ∙ ap (λ s. size_of (on_side s r)) (sym same) ∙ sym (standing_size id r u is)
