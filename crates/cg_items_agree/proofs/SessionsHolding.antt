-- What is held of sessions beside a run: what their lines told, which were opened, that each action was made before it was written, and that
-- what a session wrote and was told of is within what it has seen.
use Rattle.std.proofs.Common.{◌≡◌, ◌⊎◌, ℕ, suc, ◌≤◌, ◌||◌, List, [], ◌∷◌, ◌++◌, length, Option, Some, None, Bool, true, false, if◌then◌else◌, refl, sym, ap, subst, ◌∙◌, inl, inr, arith, eq-eqb, length-append}
use Rattle.std.proofs.lemmas.Bool.{cases_Bool, or_cases}
use Rattle.cg_base.specs.declared.action_id.ActionId.{ActionId}
use Rattle.cg_base.specs.Ids.{has_name, same_id}
use Rattle.cg_base.specs.IdLaws.{same_id-is, has_name-append}
use Rattle.cg_base.specs.Lists.{Each}
use Rattle.cg_model.specs.Places.{place_of}
use Rattle.cg_session_list.specs.declared.session.Session.{Session}
use Rattle.cg_session_list.specs.declared.session_line.SessionLine.{SessionLine}
use Rattle.cg_session_list.specs.Sessions.{SessionsNoted}
use Rattle.cg_items.specs.SessionsAgree.{writer_of}
use Rattle.cg_items_agree.proofs.SessionsRising.{rises-least}
use Rattle.cg_items_agree.proofs.SessionsLooking.{stands_in}
use Rattle.cg_items_agree.proofs.SessionsTold.{numbers_on, is_of, position_in, owns, writer-append, or-none, or_else, IsTold, GoesOn, told-on, told-first}
use Rattle.cg_items_agree.proofs.SessionsFollowing.{Followed}

-- a name within the order keeps its place as the order goes on
pub place-grows : (order more : List ActionId) (id : ActionId) → place_of order id ≤ length order → place_of (order ++ more) id ≡ place_of order id
place-grows [] more id within = absurd (omega arith)
place-grows (x ∷ order) more id within = at (same_id x id) within (place-grows order more id) where
  at : (b : Bool) → (if b then 1 else suc (place_of order id)) ≤ suc (length order) → (place_of order id ≤ length order → place_of (order ++ more) id ≡ place_of order id) →
      (if b then 1 else suc (place_of (order ++ more) id)) ≡ (if b then 1 else suc (place_of order id))
  at true within rest = refl
  at false within rest = ap suc (rest (omega arith))

pub names-each : (P : ActionId → Type 0) (ids : List ActionId) (id : ActionId) → Each P ids → has_name ids id ≡ true → P id
names-each P [] id each there = absurd (let clash : false ≡ true = there in cc)
names-each P (x ∷ ids) id each there = elim (cases_Bool (same_id id x)) [
  | inl here ↦ subst P (sym (same_id-is id x here)) each.0
  | inr other ↦ names-each P ids id each.1 (sym (ap (λ b. b || has_name ids id) other) ∙ there)
]

-- behind lines, with which sessions were opened, the names of the actions that were made, the order, and the names that were replied to
pub record HoldsIn (lines : List SessionLine) (opened : ℕ → Bool) (made order replied : List ActionId) (open_ : List Session) : Type 0 where
  pub told : IsTold open_ lines
  pub stands : (s : ℕ) → stands_in open_ s ≡ opened s
  pub known : (id : ActionId) → has_name made id ≡ false → writer_of lines id ≡ None
  pub placed : (id : ActionId) → has_name replied id ≡ true → place_of order id ≤ length order
  pub was_made : (id : ActionId) → has_name replied id ≡ true → has_name made id ≡ true
  pub held : (s : ℕ) (id : ActionId) → owns open_ s id ≡ true → has_name replied id ≡ true → place_of order id ≤ position_in open_ s

pub holds-first : HoldsIn [] (λ s. false) [] [] [] []
holds-first = record {
  told = told-first;
  stands = λ s. refl;
  known = λ id none. refl;
  placed = λ id there. absurd (let clash : false ≡ true = there in cc);
  was_made = λ id there. absurd (let clash : false ≡ true = there in cc);
  held = λ s id own there. absurd (let clash : false ≡ true = there in cc);
}

-- beside the world: nothing is written, and nothing is replied to
pub holds-beside : (lines more : List SessionLine) (opened opened_now : ℕ → Bool) (made order replied : List ActionId) (open_ later : List Session) →
    HoldsIn lines opened made order replied open_ → GoesOn open_ later more → ((s : ℕ) → stands_in later s ≡ opened_now s) → HoldsIn (lines ++ more) opened_now made order replied later
holds-beside lines more opened opened_now made order replied open_ later h goes stands = record {
  told = told-on open_ later lines more h.told goes;
  stands = stands;
  known = λ id none. writer-append lines more id ∙ ap (or_else (writer_of lines id)) (goes.silent.writer id) ∙ or-none (writer_of lines id) ∙ h.known id none;
  placed = h.placed;
  was_made = h.was_made;
  held = λ s id own there.
      let before = h.held s id (sym (goes.owns s id) ∙ own) there in
      let last = goes.last s in
      let up = rises-least (position_in open_ s) (numbers_on s more) (goes.rises s) in
      omega arith;
}

-- behind a step of the world
module _ (lines : List SessionLine) (opened : ℕ → Bool) (made order replied : List ActionId) (open_ : List Session) (h : HoldsIn lines opened made order replied open_)
    (made_now more new : List ActionId) (w : Option ℕ) (mine : List ActionId) (m : SessionsNoted)
    (followed : Followed open_ lines h.told (λ id. place_of (order ++ more) id) w mine new m)
    (grown : (id : ActionId) → has_name made id ≡ true → has_name made_now id ≡ true)
    (mine_made : (id : ActionId) → has_name mine id ≡ true → has_name made_now id ≡ true)
    (fresh : (id : ActionId) → has_name mine id ≡ true → has_name made id ≡ false)
    (within : Each (λ id. place_of (order ++ more) id ≤ length (order ++ more)) new)
    (new_made : Each (λ id. has_name made_now id ≡ true) new) where
  known-now : (id : ActionId) → has_name made_now id ≡ false → writer_of (lines ++ m.lines) id ≡ None
  known-now id none = at (writer_of (lines ++ m.lines) id) refl where
    not-before : has_name made id ≡ false
    not-before = elim (cases_Bool (has_name made id)) [
      | inl there ↦ absurd (let clash : true ≡ false = sym (grown id there) ∙ none in cc)
      | inr out ↦ out
    ]

    at : (o : Option ℕ) → writer_of (lines ++ m.lines) id ≡ o → o ≡ None
    at None is = refl
    at (Some s) is =
        let own : owns m.sessions s id ≡ true = followed.told.writer s id ∙ ap (is_of s) is ∙ eq-eqb s s refl in
        elim (followed.gained s id own) [
          | inl old ↦ absurd (let clash : true ≡ false = sym old ∙ h.told.writer s id ∙ ap (is_of s) (h.known id not-before) in cc)
          | inr there ↦ absurd (let clash : true ≡ false = sym (mine_made id there) ∙ none in cc)
        ]

  either : (id : ActionId) → has_name (replied ++ new) id ≡ true → (has_name replied id ≡ true) ⊎ (has_name new id ≡ true)
  either id there = or_cases (has_name replied id) (has_name new id) (sym (has_name-append replied new id) ∙ there)

  still : (id : ActionId) → has_name replied id ≡ true → place_of (order ++ more) id ≡ place_of order id
  still id there = place-grows order more id (h.placed id there)

  pub holds-behind : HoldsIn (lines ++ m.lines) opened made_now (order ++ more) (replied ++ new) m.sessions
  holds-behind = record {
    told = followed.told;
    stands = λ s. followed.stands s ∙ h.stands s;
    known = known-now;
    placed = λ id there. elim (either id there) [
      | inl old ↦ (let same = still id old in let low = h.placed id old in let long = length-append order more in omega arith)
      | inr now ↦ names-each (λ id. place_of (order ++ more) id ≤ length (order ++ more)) new id within now
    ];
    was_made = λ id there. elim (either id there) [
      | inl old ↦ grown id (h.was_made id old)
      | inr now ↦ names-each (λ id. has_name made_now id ≡ true) new id new_made now
    ];
    held = λ s id own there. elim (either id there) [
      | inl old ↦ elim (followed.gained s id own) [
        | inl before ↦ (let same = still id old in let low = h.held s id before old in let up = followed.grows s in omega arith)
        | inr now ↦ absurd (let clash : true ≡ false = sym (h.was_made id old) ∙ fresh id now in cc)
      ]
      | inr now ↦ (names-each (λ id. (s : ℕ) → owns m.sessions s id ≡ true → place_of (order ++ more) id ≤ position_in m.sessions s) new id followed.least now) s own
    ];
  }
