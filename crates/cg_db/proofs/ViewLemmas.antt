-- What is seen of a map whose keys are texts.
use Rattle.std.proofs.Common.{◌≡◌, ℕ, Bool, true, false, cond, List, [], ◌∷◌, inl, inr, refl, sym, ap, subst, ◌∙◌}
use Rattle.std.specs.Prelude.{Option, Some, None}
use Rattle.std.specs.Str.{bytes_eq}
use Rattle.std.specs.Map.{lookup, KeepsOthers}
use Rattle.std.specs.HashMap.{HashMap, UpdatesBy}
use Rattle.std.specs.Cmp.Lexicographic.{bytes_decides, nat_list_eq_equiv}
use Rattle.std.proofs.lemmas.Bool.{cases_Bool}
use Rattle.cg_text.specs.Order.{same_text}
use Rattle.cg_action.specs.declared.value.Value.{Value}
use Rattle.cg_action.specs.declared.entry.DbEntry.{DbEntry}
use Rattle.cg_db.specs.Map.{value_of}
use Rattle.cg_db.specs.Ascending.{Ascends}
use Rattle.cg_db.specs.View.{of_entries}
use Rattle.cg_db.specs.Plan.{set_option}
use Rattle.cg_db.specs.TextOrderLaws.{same-sym}
use Rattle.cg_db.specs.AscendingLaws.{Ascends-put, Ascends-filter}
use Rattle.cg_db.proofs.MapLemmas.{value_of-put, value_of-remove, same_at_each_key}

pub Ascends-of_entries : (es : List (List ℕ × Value)) → Ascends (of_entries es)
Ascends-of_entries [] = tt
Ascends-of_entries (e ∷ es) = Ascends-put (of_entries es) e.0 e.1 (Ascends-of_entries es)

-- a look-up by text
pub value_of-of_entries : (es : List (List ℕ × Value)) (q : List ℕ) → value_of (of_entries es) q ≡ lookup (λ (k : List ℕ). bytes_eq q k) es
value_of-of_entries [] q = refl
value_of-of_entries (e ∷ es) q =
    value_of-put (of_entries es) e.0 e.1 q ∙ ap (λ (rest : Option Value). cond (bytes_eq q e.0) (Some e.1) rest) (value_of-of_entries es q)

pub value_of-set : (db : List DbEntry) (key : List ℕ) (w : Option Value) (q : List ℕ) → value_of (set_option db key w) q ≡ cond (same_text q key) w (value_of db q)
value_of-set db key (Some v) q = value_of-put db key v q
value_of-set db key None q = value_of-remove db key q

Ascends-set : (db : List DbEntry) (key : List ℕ) (w : Option Value) → Ascends db → Ascends (set_option db key w)
Ascends-set db key (Some v) up = Ascends-put db key v up
Ascends-set db key None up = Ascends-filter _ db up

pub same_flipped : (s t : List ℕ) → same_text s t ≡ same_text t s
same_flipped s t = sym (same-sym s t (same_text s t) refl)

-- what a look-up finds after a change at a key
found_after : {S : Type 0} (key : List ℕ) (m n : HashMap (List ℕ) Value S) (w : Option Value) → UpdatesBy bytes_eq (λ k. bytes_eq key k) m n w
    → (q : List ℕ) → lookup (λ k. bytes_eq q k) n.entries ≡ cond (bytes_eq key q) w (lookup (λ k. bytes_eq q k) m.entries)
unfolding KeepsOthers
found_after key m n w updates q = elim (cases_Bool (bytes_eq key q)) [
  | inl same ↦ rw same (subst (λ k. lookup (λ x. bytes_eq k x) n.entries ≡ w) ((bytes_decides key q).0 same) updates.1)
  | inr other ↦
      let apart : (k : List ℕ) → bytes_eq key k ≡ true → bytes_eq q k ≡ false = λ k yes. nat_list_eq_equiv.symm q k ∙ sym (nat_list_eq_equiv.congr key k q yes) ∙ other in
      rw other (updates.3 (λ k. bytes_eq q k) (λ x y. nat_list_eq_equiv.congr q x y) apart)
]

-- a map with one key changed
pub of_entries-updated : {S : Type 0} (key : List ℕ) (m n : HashMap (List ℕ) Value S) (w : Option Value) → UpdatesBy bytes_eq (λ k. bytes_eq key k) m n w
    → of_entries n.entries ≡ set_option (of_entries m.entries) key w
of_entries-updated {S} key m n w updates =
    same_at_each_key (of_entries n.entries) (set_option (of_entries m.entries) key w) (Ascends-of_entries n.entries) (Ascends-set (of_entries m.entries) key w (Ascends-of_entries m.entries)) at_each
  where
    at_each : (q : List ℕ) → value_of (of_entries n.entries) q ≡ value_of (set_option (of_entries m.entries) key w) q
    at_each q =
        value_of-of_entries n.entries q ∙ found_after key m n w updates q ∙ ap (λ (rest : Option Value). cond (bytes_eq key q) w rest) (sym (value_of-of_entries m.entries q))
        ∙ ap (λ (b : Bool). cond b w (value_of (of_entries m.entries) q)) (same_flipped key q) ∙ sym (value_of-set (of_entries m.entries) key w q)
