-- At the end of an exchange the common yellow list covers what each list of the group covers: over summaries, without a world.
use Rattle.std.proofs.Common.{◌≡◌, Bool, true, false, not, ◌&&◌, List, [], ◌∷◌, ◌++◌, Option, Some, None, IfSome, length, drop, filter, fold, refl, sym, ap, ap₂, ◌∙◌, subst}
use Rattle.std.specs.Prelude.{nat_lt}
use Rattle.std.specs.List.{list_all}
use Rattle.std.proofs.lemmas.Bool.{cond_both, and_parts, and_from, or_left, or_right}
use Rattle.std.proofs.lemmas.List.{append_assoc}
use Rattle.cg_base.specs.declared.action_id.ActionId.{ActionId}
use Rattle.cg_base.specs.Ids.{has_name, same_id}
use Rattle.cg_knowledge.specs.declared.summary.Summary.{Summary}
use Rattle.cg_knowledge.specs.Summaries.{lower, lowest}
use Rattle.cg_knowledge.specs.Yellow.{yellow_group, is_green_at_most, is_in_each, is_common, yellow_of, common_yellow}
use Rattle.cg_base.specs.IdLaws.{same_id-self}
use Rattle.cg_model.specs.Fronts.{Front}
use Rattle.cg_agree_lemmas.specs.FrontFacts.{Front-rest, split_by_Front, common-covers}

-- it holds of each of the summaries
abbrev pub OfEach : (Summary → Type 0) → List Summary → Type 0
OfEach P [] = Unit {0}
OfEach P (s ∷ heard) = P s × OfEach P heard

pub of_each-weaker : (P Q : Summary → Type 0) → ((s : Summary) → P s → Q s) → (heard : List Summary) → OfEach P heard → OfEach Q heard
of_each-weaker P Q f [] each = tt
of_each-weaker P Q f (s ∷ heard) each = (f s each.0, of_each-weaker P Q f heard each.1)

lower-of : (P : Summary → Type 0) (heard : List Summary) (o : Option Summary) → IfSome o P → OfEach P heard → IfSome (fold lower o heard) P
lower-of P [] o is each = is
lower-of P (s ∷ heard) None is each = lower-of P heard (Some s) each.0 each.1
lower-of P (s ∷ heard) (Some low) is each =
    lower-of P heard (lower (Some low) s) (cond_both (nat_lt s.id low.id) (Some s) (Some low) (λ o. IfSome o P) (λ y. each.0) (λ n. is)) each.1

-- the lowest is one of them
pub lowest-of : (P : Summary → Type 0) (heard : List Summary) (low : Summary) → lowest heard ≡ Some low → OfEach P heard → P low
unfolding lowest
lowest-of P heard low e each = subst (λ o. IfSome o P) e (lower-of P heard None tt each)

-- ---- names

named-more : (ids : List ActionId) (first id : ActionId) → has_name ids id ≡ true → has_name (first ∷ ids) id ≡ true
named-more ids first id e = or_right (same_id id first) (has_name ids id) e

all-more : (es ys : List ActionId) (first : ActionId) → list_all (has_name ys) es ≡ true → list_all (has_name (first ∷ ys)) es ≡ true
all-more [] ys first e = refl
all-more (id ∷ es) ys first e =
    let parts = and_parts (has_name ys id) (list_all (has_name ys) es) e in
    and_from (has_name (first ∷ ys) id) (list_all (has_name (first ∷ ys)) es) (named-more ys first id parts.0) (all-more es ys first parts.1)

-- a list that these begin has them all
named-front : (es ys : List ActionId) → Front es ys → list_all (has_name ys) es ≡ true
named-front [] ys f = refl
named-front (id ∷ es) [] f = absurd f
named-front (id ∷ es) (y ∷ ys) f =
    and_from (has_name (y ∷ ys) id) (list_all (has_name (y ∷ ys)) es)
    (or_left (same_id id y) (has_name ys id) (ap (same_id id) (sym f.0) ∙ same_id-self id))
    (all-more es ys y (named-front es ys f.1))

named-behind : (fs es ys : List ActionId) → Front (fs ++ es) ys → list_all (has_name ys) es ≡ true
named-behind [] es ys f = named-front es ys f
named-behind (x ∷ fs) es [] f = absurd f
named-behind (x ∷ fs) es (y ∷ ys) f = all-more es ys y (named-behind fs es ys f.1)

all-each : (t : Summary → Bool) (heard : List Summary) → OfEach (λ s. t s ≡ true) heard → list_all t heard ≡ true
all-each t [] each = refl
all-each t (s ∷ heard) each = and_from (t s) (list_all t heard) each.0 (all-each t heard each.1)

-- each of the names stands in each list of the group
all-swapped : (group : List Summary) (es : List ActionId) → OfEach (λ s. list_all (has_name s.yellow.list) es ≡ true) group → list_all (is_in_each group) es ≡ true
unfolding is_in_each
all-swapped group [] each = refl
all-swapped group (id ∷ es) each =
    and_from (is_in_each group id) (list_all (is_in_each group) es)
    (all-each (λ s. has_name s.yellow.list id) group (of_each-weaker (λ s. list_all (has_name s.yellow.list) (id ∷ es) ≡ true) (λ s. has_name s.yellow.list id ≡ true)
    (λ s e. (and_parts (has_name s.yellow.list id) (list_all (has_name s.yellow.list) es) e).0) group each))
    (all-swapped group es (of_each-weaker (λ s. list_all (has_name s.yellow.list) (id ∷ es) ≡ true) (λ s. list_all (has_name s.yellow.list) es ≡ true)
    (λ s e. (and_parts (has_name s.yellow.list id) (list_all (has_name s.yellow.list) es) e).1) group each))

all-common : (heard : List Summary) (es : List ActionId) → list_all (is_in_each (yellow_group heard)) es ≡ true → list_all (λ id. not (is_green_at_most heard id)) es ≡ true →
    list_all (is_common heard) es ≡ true
all-common heard [] one two = refl
all-common heard (id ∷ es) one two =
    let a = and_parts (is_in_each (yellow_group heard) id) (list_all (is_in_each (yellow_group heard)) es) one in
    let b = and_parts (not (is_green_at_most heard id)) (list_all (λ id. not (is_green_at_most heard id)) es) two in
    and_from (is_common heard id) (list_all (is_common heard) es)
    (and_from (is_in_each (yellow_group heard) id) (not (is_green_at_most heard id)) a.0 b.0) (all-common heard es a.1 b.1)

none-common : (heard : List Summary) (fs : List ActionId) → list_all (is_green_at_most heard) fs ≡ true → list_all (λ id. not (is_common heard id)) fs ≡ true
none-common heard [] e = refl
none-common heard (id ∷ fs) e =
    let parts = and_parts (is_green_at_most heard id) (list_all (is_green_at_most heard) fs) e in
    and_from (not (is_common heard id)) (list_all (λ id. not (is_common heard id)) fs)
    (ap (λ b. not (is_in_each (yellow_group heard) id && not b)) parts.0 ∙ no-and (is_in_each (yellow_group heard) id)) (none-common heard fs parts.1) where
      no-and : (b : Bool) → not (b && false) ≡ true
      no-and true = refl
      no-and false = refl

pub all-behind : (t : ActionId → Bool) (gs fs : List ActionId) → list_all t (gs ++ fs) ≡ true → list_all t fs ≡ true
all-behind t [] fs e = e
all-behind t (g ∷ gs) fs e = all-behind t gs fs (and_parts (t g) (list_all t (gs ++ fs)) e).1

-- ---- the common yellow list

-- a member has greens that the most updated one has too, and with its yellow names it covers what can be green
pub record CoversWith (top reach : List ActionId) (mine : List ActionId) (yellow : List ActionId) : Type 0 where
  pub front : Front mine top
  pub covers : Front reach (mine ++ yellow)

module _ (heard : List Summary) (top reach : List ActionId) (mine : Summary → List ActionId) (within : Front top reach) where
  abbrev beyond : List ActionId
  beyond = drop (length top) reach

  -- the line as a member has it: its greens, what the most updated one has more, and the rest
  member-front : (s : Summary) → CoversWith top reach (mine s) s.yellow.list →
      Front (mine s ++ (drop (length (mine s)) top ++ beyond)) (mine s ++ s.yellow.list)
  member-front s is =
      let gs = mine s in
      let fs = drop (length gs) top in
      let whole : reach ≡ gs ++ (fs ++ beyond) = split_by_Front top reach within ∙ ap (λ xs. xs ++ beyond) (split_by_Front gs top is.front) ∙ append_assoc gs fs beyond in
      subst (λ xs. Front xs (gs ++ s.yellow.list)) whole is.covers

  -- Where each of the group covers what can be green, the most updated member's greens and the common yellow list cover it: the
  -- names that the most updated one has are green there, and those beyond aren't.
  pub group-covers : (low : Summary) → lowest (yellow_group heard) ≡ Some low →
      OfEach (λ s. CoversWith top reach (mine s) s.yellow.list) (yellow_group heard) →
      list_all (is_green_at_most heard) top ≡ true → list_all (λ id. not (is_green_at_most heard id)) (drop (length top) reach) ≡ true →
      Front reach (top ++ (common_yellow heard).list)
  unfolding common_yellow
  group-covers low e each known new =
      let group = yellow_group heard in
      let gs = mine low in
      let fs = drop (length gs) top in
      let is : CoversWith top reach gs low.yellow.list = lowest-of (λ s. CoversWith top reach (mine s) s.yellow.list) group low e each in
      let named = of_each-weaker (λ s. CoversWith top reach (mine s) s.yellow.list) (λ s. list_all (has_name s.yellow.list) beyond ≡ true)
      (λ s c. named-behind (drop (length (mine s)) top) beyond s.yellow.list (Front-rest (mine s) (drop (length (mine s)) top ++ beyond) s.yellow.list (member-front s c))) group each in
      let split : top ≡ gs ++ fs = split_by_Front gs top is.front in
      let pass = all-common heard beyond (all-swapped group beyond named) new in
      let fail = none-common heard fs (all-behind (is_green_at_most heard) gs fs (ap (list_all (is_green_at_most heard)) (sym split) ∙ known)) in
      let both = common-covers (is_common heard) gs fs beyond low.yellow.list fail pass (member-front low is) in
      let left : (gs ++ fs) ++ beyond ≡ reach = ap (λ xs. xs ++ beyond) (sym split) ∙ sym (split_by_Front top reach within) in
      let right : (gs ++ fs) ++ filter (is_common heard) low.yellow.list ≡ top ++ (yellow_of heard (lowest group)).list =
      ap₂ (λ xs (o : Option Summary). xs ++ (yellow_of heard o).list) (sym split) (sym e) in
      subst (λ xs. Front reach xs) right (subst (λ xs. Front xs ((gs ++ fs) ++ filter (is_common heard) low.yellow.list)) left both)
