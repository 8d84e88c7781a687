use Rattle.std.proofs.Common.{◌≡◌, ◌++◌, ◌∙◌, refl, ap, Result, Ok, Err}
use Rattle.std.specs.Prelude.{IsOk, OnOk}
use Rattle.std.proofs.Output.{if_some_weaken, contents_after_writes}
use Rattle.cg_base.proofs.sink.written.Goals as goal

on_ok : {X Y P : Type 0} (r : Result X Y) → (IsOk r → P) → OnOk r P
on_ok (Ok x) f = f refl
on_ok (Err y) f = tt

-- what the calls of `write_str` gave in turn stands behind the bytes
pub returns-clause-ok : goal.returns-clause-ok
returns-clause-ok g c =
    on_ok c.write-result.result (λ ok. if_some_weaken (g.D.Display.output c.args.value.now) _ (λ bs. c.bytes.inside.bytes.items ≡ c.args.bytes.items ++ bs)
    (λ bs k. c.bytes.view_is ∙ c.into_inner.ensures ∙ contents_after_writes _ (λ s. s) (λ w l v t. t) _ bs _ (k c.new-f.ensures.plain ok).wrote ∙ ap (λ s. s ++ bs) c.new-f.ensures.writer)
    c.write-result.ensures.writes)
