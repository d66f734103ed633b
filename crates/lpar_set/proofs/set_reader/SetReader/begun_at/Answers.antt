use Rattle.std.proofs.Common.{◌≡◌, ◌∙◌, ℕ, List, sym, ap, subst, length, nat_eq, arith, eq-eqb}
use Rattle.std.proofs.lemmas.List.Sums.{position_or_len_is}
use Rattle.lpar_set.specs.SetGrammar.{SetReading, begun_at}
use Rattle.lpar_set.proofs.set_reader.SetReader.begun_at.Goals as goal

pub returns-then-begun-number : goal.returns-then-begun-number
returns-then-begun-number c =
    let same : c.as_slice-begun-items.result.now ≡ c.args.self.now.begun =
    c.as_slice-begun-items.ensures.value ∙ ap (λ (r : SetReading). r.begun) c.self.view_is in
    subst (λ (ns : List ℕ). c.loop-i.i ≡ begun_at ns c.args.number) same
    (sym
    (position_or_len_is (λ n. nat_eq n c.args.number) c.as_slice-begun-items.result.now
    c.loop-i.i 0 (omega arith) c.loop-i.invariant
    (λ within. eq-eqb _ _ c.if-begun-number.true)))

pub returns : goal.returns
returns c =
    let same : c.as_slice-begun-items.result.now ≡ c.args.self.now.begun =
    c.as_slice-begun-items.ensures.value ∙ ap (λ (r : SetReading). r.begun) c.self.view_is in
    let all : length c.as_slice-begun-items.result.now ≡ length c.self.inside.begun.items = ap
    length c.as_slice-begun-items.ensures.value in
    let end : c.len.result ≡ c.loop-i.i = omega (arith, all) in
    subst (λ (ns : List ℕ). c.len.result ≡ begun_at ns c.args.number) same
    (end
    ∙ sym
    (position_or_len_is (λ n. nat_eq n c.args.number) c.as_slice-begun-items.result.now
    c.loop-i.i 0 (omega (arith, all)) c.loop-i.invariant
    (λ within. absurd (omega (arith, all)))))
