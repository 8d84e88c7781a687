-- Reading a quoted text byte by byte.
use Rattle.std.proofs.Common.{◌≡◌, ℕ, suc, ◌+◌, ◌<◌, Bool, false, List, ◌∷◌, ◌++◌, length, get_or, drop, drop-cons, Option, Some, None, refl, sym, ap, ◌∙◌, append_assoc, add-one}
use Rattle.cg_text.specs.Quoted.{ends_text, escapes, is_refused, kept, onto, text_up_to_quote}

onto-onto : (front next : List ℕ) (text : Option (List ℕ)) → onto front (onto next text) ≡ onto (front ++ next) text
onto-onto front next None = refl
onto-onto front next (Some bytes) = ap (λ (t : List ℕ). Some t) (sym (append_assoc front next bytes))

-- a byte that neither ends the text nor is refused
pub text_goes_on : (front inner : List ℕ) (i : ℕ) (is_escaped : Bool) (total : Option (List ℕ)) → i < length inner
    → ends_text is_escaped (get_or inner i 0) ≡ false → is_refused is_escaped (get_or inner i 0) ≡ false → onto front (text_up_to_quote is_escaped (drop i inner)) ≡ total
    → onto (front ++ kept (escapes is_escaped (get_or inner i 0)) (get_or inner i 0)) (text_up_to_quote (escapes is_escaped (get_or inner i 0)) (drop (i + 1) inner)) ≡ total
text_goes_on front inner i is_escaped total lt goes stands so_far =
    let byte = get_or inner i 0 in
    let cut : drop i inner ≡ byte ∷ drop (suc i) inner = drop-cons inner i 0 lt in
    let step : onto front (text_up_to_quote is_escaped (drop i inner)) ≡ onto (front ++ kept (escapes is_escaped byte) byte) (text_up_to_quote (escapes is_escaped byte) (drop (suc i) inner)) = rw (cut, goes, stands) (onto-onto front _ _) in
    rw add-one (sym step ∙ so_far)
