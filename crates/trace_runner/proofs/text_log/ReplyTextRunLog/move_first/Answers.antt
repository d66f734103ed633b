use Rattle.std.proofs.Common.{◌≡◌, ◌-◌, ◌∷◌, ◌++◌, ◌∙◌, take, drop, sym, ap, subst, is_some, arith, string_bytes}
use Rattle.std.specs.Option.{option_to_list}
use Rattle.std.specs.Str.{IsCharBoundary}
use Rattle.std.proofs.lemmas.Str.{IsUtf8-string_bytes}
use Rattle.trace_runner.specs.TextLog.{KeepsText}
use Rattle.trace_runner.proofs.TextLogs.{first_text, some_end, has_more}
use Rattle.trace_runner.proofs.text_log.ReplyTextRunLog.move_first.Goals as goal

pub unwrap-end-requires : goal.unwrap-end-requires
unwrap-end-requires c =
    let log = c.args.self.now in
    let s = c.requires.some in
    let some = some_end (string_bytes log.text) log.ends.items log.start s.0 s.1 s.2 s.3 s.4 in
    ap is_some (c.pop_front.ensures.value 0 (omega (arith, some, log.ends.ok.0)))

pub range-first-requires-clause-start_boundary : goal.range-first-requires-clause-start_boundary
range-first-requires-clause-start_boundary c = λ positive.
    let log = c.args.self.now in
    let s = c.requires.some in
    let bytes = string_bytes log.text in
    let ends : log.ends.items ≡ c.unwrap-end.result ∷ c.pop_front.new.self.items =
    c.pop_front.ensures.items ∙ ap (λ o. option_to_list o ++ c.pop_front.new.self.items)
    c.unwrap-end.ensures in
    let at = first_text bytes c.pop_front.new.self.items log.start c.unwrap-end.result s.0 s.1 s.2
    s.3 (IsUtf8-string_bytes log.text)
    (subst (λ es. KeepsText bytes es log.start (s.0 ∷ s.2) (s.1 ∷ s.3)) ends s.4) in
    subst (λ bs. IsCharBoundary bs log.start) (sym c.deref.ensures) at.from

pub range-first-requires-clause-end_boundary : goal.range-first-requires-clause-end_boundary
range-first-requires-clause-end_boundary c =
    let log = c.args.self.now in
    let s = c.requires.some in
    let bytes = string_bytes log.text in
    let ends : log.ends.items ≡ c.unwrap-end.result ∷ c.pop_front.new.self.items =
    c.pop_front.ensures.items ∙ ap (λ o. option_to_list o ++ c.pop_front.new.self.items)
    c.unwrap-end.ensures in
    let at = first_text bytes c.pop_front.new.self.items log.start c.unwrap-end.result s.0 s.1 s.2
    s.3 (IsUtf8-string_bytes log.text)
    (subst (λ es. KeepsText bytes es log.start (s.0 ∷ s.2) (s.1 ∷ s.3)) ends s.4) in
    subst (λ bs. IsCharBoundary bs c.unwrap-end.result) (sym c.deref.ensures) at.to

pub returns-clause-left : goal.returns-clause-left
returns-clause-left c = λ l r ls rs h.
    let log = c.args.self.now in
    let bytes = string_bytes log.text in
    let ends : log.ends.items ≡ c.unwrap-end.result ∷ c.pop_front.new.self.items =
    c.pop_front.ensures.items ∙ ap (λ o. option_to_list o ++ c.pop_front.new.self.items)
    c.unwrap-end.ensures in
    (first_text bytes c.pop_front.new.self.items log.start c.unwrap-end.result l r ls rs
    (IsUtf8-string_bytes log.text)
    (subst (λ es. KeepsText bytes es log.start (l ∷ ls) (r ∷ rs)) ends h)).rest

pub returns-clause-moved : goal.returns-clause-moved
returns-clause-moved c = λ l r ls rs ks qs h has.
    let log = c.args.self.now in
    let bytes = string_bytes log.text in
    let ends : log.ends.items ≡ c.unwrap-end.result ∷ c.pop_front.new.self.items =
    c.pop_front.ensures.items ∙ ap (λ o. option_to_list o ++ c.pop_front.new.self.items)
    c.unwrap-end.ensures in
    let at = first_text bytes c.pop_front.new.self.items log.start c.unwrap-end.result l r ls rs
    (IsUtf8-string_bytes log.text)
    (subst (λ es. KeepsText bytes es log.start (l ∷ ls) (r ∷ rs)) ends h) in
    let put = c.in_ok-push_str.ensures.bytes ∙ ap (λ t. string_bytes c.args.text.now ++ t)
    (c.range-first.ensures.value
    ∙ ap (λ bs. take (c.unwrap-end.result - log.start) (drop log.start bs)) c.deref.ensures
    ∙ at.text) in
    has_more (string_bytes c.args.text.now) (string_bytes c.push_str.new.self) ks qs l r put has
