-- Behind a step of the world: what was written is told, then each reply that raises what its action's writer has seen.
use Rattle.std.proofs.Common.{◌≡◌, ◌⊎◌, ℕ, ◌==◌, ◌<◌, ◌≤◌, nat_lt, ◌&&◌, ◌||◌, List, [], ◌∷◌, ◌++◌, map, fold, flat_map, Option, Some, None, Bool, true, false, if◌then◌else◌, refl, sym, ap, subst, ◌∙◌, inl, inr, arith, append-nil, append_assoc}
use Rattle.std.proofs.lemmas.Bool.{cases_lt, ltb-true, lt-ltb}
use Rattle.cg_base.specs.declared.action_id.ActionId.{ActionId}
use Rattle.cg_base.specs.Ids.{has_name, same_id}
use Rattle.cg_base.specs.Lists.{Each}
use Rattle.cg_session.specs.Token.{wrote}
use Rattle.cg_session_list.specs.declared.session.Session.{Session}
use Rattle.cg_session_list.specs.declared.session_line.SessionLine.{SessionLine}
use Rattle.cg_session_list.specs.declared.session_line.SessionLine.TheVariants.{Wrote, At}
use Rattle.cg_session_list.specs.Sessions.{SessionsNoted, sessions_unchanged, own_by, with_reply}
use Rattle.cg_items.specs.SessionsAgree.{writer_of}
use Rattle.cg_items_agree.proofs.SessionsRising.{Ascends, last_from}
use Rattle.cg_items_agree.proofs.SessionsLooking.{stands_in, stands-map, stands-changing}
use Rattle.cg_items_agree.proofs.SessionsTold.{numbers_on, is_of, position_in, owns, IsTold, told-on, told-wrote, wrote-owns, wrote-keeps, due_from, due_line, raised-due, reply-owns, reply-position, goes-reply}

due-same : (f g : ℕ → ℕ) (place : ℕ) (w : Option ℕ) → ((s : ℕ) → nat_lt (f s) place ≡ nat_lt (g s) place) → due_from f place w ≡ due_from g place w
due-same f g place None same = refl
due-same f g place (Some s) same = ap (λ b. if b then At s place ∷ [] else []) (same s)

-- ---- replies

module _ (place : ActionId → ℕ) (seen : ℕ → ℕ) (writer : ActionId → Option ℕ) (before : List SessionLine) where
  abbrev pub reply_on : SessionsNoted → ActionId → SessionsNoted
  reply_on n id = with_reply n id (place id)

  abbrev pub due : List ActionId → List SessionLine
  due ids = flat_map (λ id. due_from seen (place id) (writer id)) ids

  -- replies at places above this one are told as if nothing had been told since the beginning
  pub record StandsSo (n : SessionsNoted) (low : ℕ) : Type 0 where
    pub told : IsTold n.sessions (before ++ n.lines)
    pub owner : (s : ℕ) (id : ActionId) → owns n.sessions s id ≡ is_of s (writer id)
    pub same : (s place : ℕ) → low < place → nat_lt (position_in n.sessions s) place ≡ nat_lt (seen s) place

  pub record RepliesOn (n m : SessionsNoted) (ids : List ActionId) : Type 0 where
    pub lines : m.lines ≡ n.lines ++ due ids
    pub told : IsTold m.sessions (before ++ m.lines)
    pub stands : (s : ℕ) → stands_in m.sessions s ≡ stands_in n.sessions s
    pub owns_same : (s : ℕ) (id : ActionId) → owns m.sessions s id ≡ owns n.sessions s id
    pub grows : (s : ℕ) → position_in n.sessions s ≤ position_in m.sessions s
    pub least : Each (λ id. (s : ℕ) → owns n.sessions s id ≡ true → place id ≤ position_in m.sessions s) ids

  module _ (n : SessionsNoted) (low : ℕ) (id : ActionId) (is : StandsSo n low) (higher : low < place id) where
    abbrev at : ℕ
    at = place id

    abbrev next : SessionsNoted
    next = reply_on n id

    one-line : next.lines ≡ n.lines ++ due_from seen at (writer id)
    one-line = ap (λ ls. n.lines ++ ls) (raised-due id at n.sessions (writer id) is.told.apart (λ s. is.owner s id)
        ∙ due-same (λ s. position_in n.sessions s) seen at (writer id) (λ s. is.same s at higher))

    stands-next : StandsSo next at
    stands-next = record {
      told = subst (λ ls. IsTold next.sessions (before ++ (n.lines ++ ls))) (sym (raised-due id at n.sessions (writer id) is.told.apart (λ s. is.owner s id)))
          (subst (IsTold next.sessions) (append_assoc before n.lines (due_line n.sessions at (writer id)))
          (told-on n.sessions next.sessions (before ++ n.lines) (due_line n.sessions at (writer id)) is.told (goes-reply n.sessions id at (writer id) is.told.apart (λ s. is.owner s id))));
      owner = λ s x. reply-owns n.sessions id at s x ∙ is.owner s x;
      same = λ s p up. ap (λ k. nat_lt k p) (reply-position n.sessions id at s) ∙ test s p up (owns n.sessions s id) (nat_lt (position_in n.sessions s) at) refl;
    } where
      test : (s p : ℕ) → at < p → (a b : Bool) → nat_lt (position_in n.sessions s) at ≡ b → nat_lt (if a && b then at else position_in n.sessions s) p ≡ nat_lt (seen s) p
      test s p up true true e =
          let less : position_in n.sessions s < at = ltb-true (position_in n.sessions s) at e in
          lt-ltb at p up ∙ sym (lt-ltb (position_in n.sessions s) p (omega arith)) ∙ is.same s p (omega arith)
      test s p up true false e = is.same s p (omega arith)
      test s p up false b e = is.same s p (omega arith)

    next-grows : (s : ℕ) → position_in n.sessions s ≤ position_in next.sessions s
    next-grows s = subst (λ k. position_in n.sessions s ≤ k) (sym (reply-position n.sessions id at s)) (test (owns n.sessions s id) (nat_lt (position_in n.sessions s) at) refl) where
      test : (a b : Bool) → nat_lt (position_in n.sessions s) at ≡ b → position_in n.sessions s ≤ (if a && b then at else position_in n.sessions s)
      test true true e = (let less : position_in n.sessions s < at = ltb-true (position_in n.sessions s) at e in omega arith)
      test true false e = omega arith
      test false b e = omega arith

    next-least : (s : ℕ) → owns n.sessions s id ≡ true → at ≤ position_in next.sessions s
    next-least s own = subst (λ k. at ≤ k) (sym (reply-position n.sessions id at s)) (test (owns n.sessions s id) (nat_lt (position_in n.sessions s) at) own refl) where
      test : (a b : Bool) → a ≡ true → nat_lt (position_in n.sessions s) at ≡ b → at ≤ (if a && b then at else position_in n.sessions s)
      test true true y e = omega arith
      test true false y e = elim (cases_lt (position_in n.sessions s) at) [
        | inl lt ↦ absurd (let clash : true ≡ false = sym (lt-ltb (position_in n.sessions s) at lt) ∙ e in cc)
        | inr le ↦ le
      ]
      test false b y e = absurd (let clash : false ≡ true = y in cc)

    then-rest : (ids : List ActionId) (m : SessionsNoted) → RepliesOn next m ids → RepliesOn n m (id ∷ ids)
    then-rest ids m rest = record {
      lines = rest.lines ∙ ap (λ ls. ls ++ due ids) one-line ∙ append_assoc n.lines (due_from seen at (writer id)) (due ids);
      told = rest.told;
      stands = λ s. rest.stands s ∙ stands-map _ (λ o. refl) n.sessions s;
      owns_same = λ s x. rest.owns_same s x ∙ reply-owns n.sessions id at s x;
      grows = λ s. (let one = next-grows s in let two = rest.grows s in omega arith);
      least = (λ s own. (let one = next-least s own in let two = rest.grows s in omega arith), weaker ids rest.least);
    } where
      weaker : (ids : List ActionId) → Each (λ id. (s : ℕ) → owns next.sessions s id ≡ true → place id ≤ position_in m.sessions s) ids
          → Each (λ id. (s : ℕ) → owns n.sessions s id ≡ true → place id ≤ position_in m.sessions s) ids
      weaker [] each = tt
      weaker (x ∷ ids) each = (λ s own. each.0 s (reply-owns n.sessions id at s x ∙ own), weaker ids each.1)

  pub replies-on : (ids : List ActionId) (n : SessionsNoted) (low : ℕ) → StandsSo n low → Ascends low (map place ids) → RepliesOn n (fold reply_on n ids) ids
  replies-on [] n low is up = record { lines = sym (append-nil n.lines); told = is.told; stands = λ s. refl; owns_same = λ s x. refl; grows = λ s. omega arith; least = tt }
  replies-on (id ∷ ids) n low is up =
      then-rest n low id is up.0 ids (fold reply_on (reply_on n id) ids) (replies-on ids (reply_on n id) (place id) (stands-next n low id is up.0) up.1)

-- ---- writes

-- at most one action is written, and no session has
abbrev pub FreshOne : List SessionLine → List ActionId → Type 0
FreshOne lines [] = Unit {0}
FreshOne lines (id ∷ []) = writer_of lines id ≡ None
FreshOne lines (id ∷ (other ∷ ids)) = ⊥

abbrev pub written_by : Option ℕ → List Session → List ActionId → SessionsNoted
written_by None open_ ids = sessions_unchanged open_
written_by (Some t) open_ ids = fold (own_by t) (sessions_unchanged open_) ids

abbrev pub wrote_lines : Option ℕ → List ActionId → List SessionLine
wrote_lines None ids = []
wrote_lines (Some t) ids = map (λ id. Wrote t id) ids

-- the session that writes is open, and what it writes is new
abbrev pub MayWrite : List Session → List SessionLine → List ActionId → Option ℕ → Type 0
MayWrite open_ lines ids None = Unit {0}
MayWrite open_ lines ids (Some t) = (stands_in open_ t ≡ true) × FreshOne lines ids

pub record WritesOn (open_ : List Session) (lines : List SessionLine) (w : Option ℕ) (ids : List ActionId) (n : SessionsNoted) : Type 0 where
  pub lines_are : n.lines ≡ wrote_lines w ids
  pub told : IsTold n.sessions (lines ++ n.lines)
  pub stands : (s : ℕ) → stands_in n.sessions s ≡ stands_in open_ s
  pub position : (s : ℕ) → position_in n.sessions s ≡ position_in open_ s
  pub gained : (s : ℕ) (id : ActionId) → owns n.sessions s id ≡ true → (owns open_ s id ≡ true) ⊎ (has_name ids id ≡ true)

module _ (open_ : List Session) (lines : List SessionLine) (is : IsTold open_ lines) where
  writes-none : (w : Option ℕ) (ids : List ActionId) → wrote_lines w ids ≡ [] → WritesOn open_ lines w ids (sessions_unchanged open_)
  writes-none w ids none = record {
    lines_are = sym none;
    told = subst (IsTold open_) (sym (append-nil lines)) is;
    stands = λ s. refl;
    position = λ s. refl;
    gained = λ s id own. inl own;
  }

  pub writes-on : (w : Option ℕ) (ids : List ActionId) → MayWrite open_ lines ids w → WritesOn open_ lines w ids (written_by w open_ ids)
  writes-on None ids may = writes-none None ids refl
  writes-on (Some t) [] may = writes-none (Some t) [] refl
  writes-on (Some t) (id ∷ []) may = record {
    lines_are = refl;
    told = told-wrote open_ lines is t id may.0 may.1;
    stands = stands-changing t (λ k. wrote k id) open_;
    position = wrote-keeps open_ lines is t id may.0 may.1;
    gained = λ s x own. gains s x (sym (wrote-owns open_ lines is t id may.0 may.1 s x) ∙ own);
  } where
    gains : (s : ℕ) (x : ActionId) → (owns open_ s x || ((t == s) && same_id x id)) ≡ true → (owns open_ s x ≡ true) ⊎ (has_name (id ∷ []) x ≡ true)
    gains s x e = test (owns open_ s x) (t == s) (same_id x id) e where
      test : (a b c : Bool) → (a || (b && c)) ≡ true → (a ≡ true) ⊎ ((c || false) ≡ true)
      test true b c e = inl refl
      test false true true e = inr refl
      test false true false e = absurd (let clash : false ≡ true = e in cc)
      test false false c e = absurd (let clash : false ≡ true = e in cc)
  writes-on (Some t) (id ∷ (other ∷ ids)) may = absurd may.1

  -- ---- both

  pub record Followed (place : ActionId → ℕ) (w : Option ℕ) (made replied : List ActionId) (m : SessionsNoted) : Type 0 where
    pub lines_are : m.lines ≡ wrote_lines w made
        ++ flat_map (λ id. due_from (λ s. last_from 0 (numbers_on s lines)) (place id) (writer_of (lines ++ wrote_lines w made) id)) replied
    pub told : IsTold m.sessions (lines ++ m.lines)
    pub stands : (s : ℕ) → stands_in m.sessions s ≡ stands_in open_ s
    pub grows : (s : ℕ) → position_in open_ s ≤ position_in m.sessions s
    pub gained : (s : ℕ) (id : ActionId) → owns m.sessions s id ≡ true → (owns open_ s id ≡ true) ⊎ (has_name made id ≡ true)
    pub least : Each (λ id. (s : ℕ) → owns m.sessions s id ≡ true → place id ≤ position_in m.sessions s) replied

  pub follows-on : (place : ActionId → ℕ) (w : Option ℕ) (made replied : List ActionId) → MayWrite open_ lines made w → Ascends 0 (map place replied) →
      Followed place w made replied (fold (λ n id. with_reply n id (place id)) (written_by w open_ made) replied)
  follows-on place w made replied may up =
      let n = written_by w open_ made in
      let first = writes-on w made may in
      let seen : ℕ → ℕ = λ s. last_from 0 (numbers_on s lines) in
      let writer : ActionId → Option ℕ = λ id. writer_of (lines ++ n.lines) id in
      let so : StandsSo place seen writer lines n 0 = record {
        told = first.told;
        owner = λ s id. first.told.writer s id;
        same = λ s p above. ap (λ k. nat_lt k p) (first.position s ∙ is.position s);
      } in
      let on = replies-on place seen writer lines replied n 0 so up in
      record {
        lines_are = on.lines ∙ ap (λ ls. ls ++ flat_map (λ id. due_from seen (place id) (writer_of (lines ++ ls) id)) replied) first.lines_are;
        told = on.told;
        stands = λ s. on.stands s ∙ first.stands s;
        grows = λ s. (let one = on.grows s in let two = first.position s in omega arith);
        gained = λ s id own. first.gained s id (sym (on.owns_same s id) ∙ own);
        least = at-least (fold (λ n id. with_reply n id (place id)) n replied) on.owns_same replied on.least;
      } where
        at-least : (m : SessionsNoted) → ((s : ℕ) (id : ActionId) → owns m.sessions s id ≡ owns (written_by w open_ made).sessions s id) → (ids : List ActionId) →
            Each (λ id. (s : ℕ) → owns (written_by w open_ made).sessions s id ≡ true → place id ≤ position_in m.sessions s) ids →
            Each (λ id. (s : ℕ) → owns m.sessions s id ≡ true → place id ≤ position_in m.sessions s) ids
        at-least m same [] each = tt
        at-least m same (x ∷ ids) each = (λ s own. each.0 s (sym (same s x) ∙ own), at-least m same ids each.1)
