-- What is known of a message where it is handed: its action is booked, and a green item is what its sender told.
use Rattle.std.proofs.Common.{◌≡◌, ℕ, zero, suc, Bool, true, false, cond, ◌&&◌, List, [], ◌∷◌, map, filter, find, Option, Some, None, IfSome, refl, sym, ap, subst, ◌∙◌, ⊎_elim, arith, eq-eqb}
use Rattle.std.specs.Prelude.{◌==◌, nat_lt, nat_le, slice_get, filter_map}
use Rattle.std.specs.Option.{option_map_or}
use Rattle.std.proofs.lemmas.Bool.{cases_Bool, cond-true, cond-false, and_parts, or_left, or_right, leb-true}
use Rattle.cg_base.specs.declared.action_id.ActionId.{ActionId}
use Rattle.cg_base.specs.Cuts.{index_in}
use Rattle.cg_base.specs.Ids.{same_id, has_name}
use Rattle.cg_base.specs.IdLaws.{same_id-back}
use Rattle.cg_action.specs.declared.action.Action.{Action}
use Rattle.cg_queue.specs.Queue.{names_of}
use Rattle.cg_wire.specs.declared.message.Msg.{Msg}
use Rattle.cg_group.specs.State.{Sent}
use Rattle.cg_client.specs.Replica.{Held, created}
use Rattle.cg_client.specs.Marks.{is_unmade}
use Rattle.cg_model.specs.Chronicle.{Told, Chronicle}
use Rattle.cg_model.specs.Looks.{core_of, told_in, ordered_in, placed_of, waiting_in, said_in}
use Rattle.cg_model.specs.Talk.{action_in}
use Rattle.cg_model.specs.FactsReplica.{booked, AreBooked, MadeOnce}
use Rattle.cg_model.specs.FactsTalk.{IsContent, AreContents, Content}
use Rattle.cg_agree_lemmas.specs.HandMarks.{made-so}
use Rattle.cg_disk_records.specs.Holds.{cut_behind}
use Rattle.cg_disk_records.specs.RunMarkLaws.{run-names}
use Rattle.cg_agree_lemmas.specs.NumbersSame.{contents-front}

-- ---- booked actions

-- an action more, where there is one
abbrev put : Option Action → List Action → List Action
put None actions = actions
put (Some a) actions = a ∷ actions

-- the rest of booked actions is booked
rest-booked : (c : Chronicle) (f : Sent Msg → Option Action) (x : Sent Msg) (list : List (Sent Msg)) → AreBooked c (filter_map f (x ∷ list)) → AreBooked c (filter_map f list)
rest-booked c f x list are = at (f x) are where
  at : (o : Option Action) → AreBooked c (put o (filter_map f list)) → AreBooked c (filter_map f list)
  at None are = are
  at (Some a) are = are.1

-- the action of a message at a place is booked
pub booked-at : (c : Chronicle) (list : List (Sent Msg)) (n : ℕ) (s : Sent Msg) (a : Action) → AreBooked c (filter_map (λ (s : Sent Msg). action_in s.message) list) → slice_get list n ≡ Some s →
    action_in s.message ≡ Some a → booked c a.id ≡ Some a
booked-at c [] n s a are e is = absurd (let clash : None ≡ Some s = e in cc)
booked-at c (x ∷ list) zero s a are e is =
    let same : x ≡ s = ap (λ o. option_map_or (λ y. y) o x) e in
    (subst (λ o. AreBooked c (put o (filter_map (λ (s : Sent Msg). action_in s.message) list))) (ap (λ (y : Sent Msg). action_in y.message) same ∙ is) are).0
booked-at c (x ∷ list) (suc n) s a are e is = booked-at c list n s a (rest-booked c (λ (s : Sent Msg). action_in s.message) x list are) e is

-- a booked name is one of the book's
found-named : (book : List Action) (id : ActionId) (a : Action) → find (λ (b : Action). same_id b.id id) book ≡ Some a → has_name (names_of book) id ≡ true
found-named [] id a e = absurd (let clash : None ≡ Some a = e in cc)
found-named (b ∷ book) id a e = ⊎_elim
    (λ here. or_left (same_id id b.id) (has_name (names_of book) id) (same_id-back b.id id here))
    (λ other. or_right (same_id id b.id) (has_name (names_of book) id)
    (found-named book id a (sym (cond-false (same_id b.id id) (Some b) (find (λ (b : Action). same_id b.id id) book) other) ∙ e)))
    (cases_Bool (same_id b.id id))

-- the action of a message that was handed is made, where it is the member's own
pub message-made : (c : Chronicle) (conf n p : ℕ) (s : Sent Msg) (a : Action) (h : Held) → MadeOnce c → slice_get (ordered_in c conf) n ≡ Some s → action_in s.message ≡ Some a →
    core_of c p ≡ Some h → h.id ≡ p → is_unmade h a ≡ false
message-made c conf n p s a h once next is core id =
    made-so h a (λ own.
    let found = booked-at c (ordered_in c conf) n s a (once.in_messages conf) next is in
    let ids = names_of c.book in
    let both : (nat_lt (index_in [] a.id.creator) a.id.index && nat_le a.id.index (index_in (cut_behind [] ids) a.id.creator)) ≡ true =
    sym (run-names [] ids a.id tt once.numbered) ∙ found-named c.book a.id a found in
    let low = leb-true a.id.index (index_in (cut_behind [] ids) a.id.creator) (and_parts (nat_lt (index_in [] a.id.creator) a.id.index) (nat_le a.id.index (index_in (cut_behind [] ids) a.id.creator)) both).1 in
    let count : index_in (cut_behind [] ids) p ≡ created h = subst (λ (o : Option Held). IfSome o (λ h. index_in (cut_behind [] (names_of c.book)) p ≡ created h)) core (once.counted p) in
    let mine : index_in (cut_behind [] ids) a.id.creator ≡ index_in (cut_behind [] ids) p = ap (index_in (cut_behind [] ids)) (own ∙ id) in
    omega arith)

-- ---- content

-- a message of a member that was placed is content where all of its are
placed-content : (greens : List Action) (q : ℕ) (list : List (Sent Msg)) (n : ℕ) (s : Sent Msg) → AreContents greens (placed_of q list) → slice_get list n ≡ Some s → (s.from == q) ≡ true → IsContent greens s.message
placed-content greens q [] n s are e mine = absurd (let clash : None ≡ Some s = e in cc)
placed-content greens q (x ∷ list) zero s are e mine =
    let same : x ≡ s = ap (λ o. option_map_or (λ y. y) o x) e in
    let here : (x.from == q) ≡ true = ap (λ (y : Sent Msg). y.from == q) same ∙ mine in
    let first : IsContent greens x.message = (subst (λ xs. AreContents greens (map (λ (s : Sent Msg). s.message) xs)) (cond-true (x.from == q) (x ∷ filter (λ s. s.from == q) list) (filter (λ s. s.from == q) list) here) are).0 in
    subst (λ (y : Sent Msg). IsContent greens y.message) same first
placed-content greens q (x ∷ list) (suc n) s are e mine =
    placed-content greens q list n s (at (x.from == q) are) e mine where
      at : (b : Bool) → AreContents greens (map (λ (s : Sent Msg). s.message) (cond b (x ∷ filter (λ s. s.from == q) list) (filter (λ s. s.from == q) list))) → AreContents greens (placed_of q list)
      at true are = are.1
      at false are = are

-- a message that was placed is content of what its sender told
pub message-content : (c : Chronicle) (conf n : ℕ) (s : Sent Msg) (t : Told) → Content c → slice_get (ordered_in c conf) n ≡ Some s → told_in c conf s.from ≡ Some t → IsContent t.greens s.message
message-content c conf n s t content next found =
    let all = subst (λ (o : Option Told). IfSome o (λ t. AreContents t.greens (said_in c conf s.from))) found (content conf s.from) in
    placed-content t.greens s.from (ordered_in c conf) n s (contents-front t.greens (placed_of s.from (ordered_in c conf)) (waiting_in c conf s.from) all) next (eq-eqb s.from s.from refl)
