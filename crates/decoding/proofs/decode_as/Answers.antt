-- `decoding::decode_as`: each refusal denies what the form asks, and what is served has it.
use Rattle.std.specs.Prelude.{Ok}
use mathlib.Core.Path.{◌≡◌, sym, ap, ◌∙◌}
use mathlib.Core.Bool.{true≢false}
use Rattle.decoding.specs.declared.Layout.{Layout}
use Rattle.decoding.proofs.Laws.{decode_length, decode_field, decode_served}
use Rattle.decoding.proofs.decode_as.Goals as goal
use Rattle.decoding.proofs.decode_as.Goals.{else-is_long-via-then-is_long+else-c-ne24, else-is_long-via-else-is_long}

bytes_of : {l m : Layout} → l ≡ m → l.bytes ≡ m.bytes
bytes_of = ap (λ (l : Layout). l.bytes)

pub returns-then-c-layout_of : goal.returns-then-c-layout_of
returns-then-c-layout_of c = sym (decode_length _ _ _ (λ e. c.if-c-layout_of.true (e ∙ sym (bytes_of c.layout_of.ensures))))

pub returns-then-c-ne24 : goal.returns-then-c-ne24
returns-then-c-ne24 c = sym (decode_field _ _ _ (c.if-c-layout_of.false ∙ bytes_of c.layout_of.ensures) (sym c.is_long.ensures ∙ c.if-is_long.true) c.if-c-ne24.true)

pub returns : goal.returns
returns c =
    let e = c.if-c-layout_of.false ∙ bytes_of c.layout_of.ensures in
    ap Ok c.fields.ensures
    ∙ sym (decode_served _ _ _ e
    (λ l. elim c.else-is_long.branch [ else-is_long-via-then-is_long+else-c-ne24 w ↦ w.if-c-ne24.false | else-is_long-via-else-is_long w ↦ absurd (true≢false (sym l ∙ sym c.is_long.ensures ∙ w.if-is_long.false)) ]))
