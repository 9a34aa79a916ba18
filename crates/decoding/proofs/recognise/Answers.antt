-- `decoding::recognise`: by byte 0, or by the service action, where there is one.
use mathlib.Core.Path.{◌≡◌, sym, ap, ◌∙◌}
use mathlib.Core.List.{List}
use Prim.Native.Nat.{ℕ, ◌≤◌}
use lib.ListN.{length, get_or}
use Rattle.words.specs.BigEndian.{number_at}
use Rattle.decoding.specs.Commands.{find, service_action, recognise, Named}
use Rattle.decoding.proofs.Laws.{recognise_empty, recognise_byte, recognise_short, recognise_action}
use Rattle.decoding.proofs.recognise.Goals as goal

by_action : (c : List ℕ) (n : ℕ) (r : Named) → (length c ≡ 0 → ⊥) → get_or c 0 0 ≡ 0x7F → 10 ≤ length c → n ≡ number_at 8 2 c → r ≡ find n service_action → r ≡ recognise c
by_action c n r some e h at f = f ∙ ap (λ (k : ℕ). find k service_action) at ∙ sym (recognise_action c some e h)

pub returns-then-c-eq0 : goal.returns-then-c-eq0
returns-then-c-eq0 c = sym (recognise_empty _ c.if-c-eq0.true)

pub returns-then-c-ne127 : goal.returns-then-c-ne127
returns-then-c-ne127 c = c.by_byte.ensures ∙ sym (recognise_byte _ c.if-c-eq0.false c.if-c-ne127.true)

pub returns-then-c-lt10 : goal.returns-then-c-lt10
returns-then-c-lt10 c = sym (recognise_short _ c.if-c-eq0.false c.if-c-ne127.false c.if-c-lt10.true)

pub returns : goal.returns
returns c =
    by_action _ _ _ c.if-c-eq0.false c.if-c-ne127.false c.if-c-lt10.false c.read2.ensures c.by_action.ensures
