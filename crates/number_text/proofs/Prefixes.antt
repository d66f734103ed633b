-- Texts that start with others, and what `push_str` makes of them.
use Rattle.std.proofs.Common.{◌≡◌, Result, Ok, Err, is_ok, OnOk, if◌then◌else◌, ℕ, ◌≤◌, List, ◌++◌, length, take, sym, ap, ◌∙◌, arith, length-append}
use Rattle.std.proofs.Math.Seq.{take-append_seam}
use Rattle.std.proofs.lemmas.List.{take-take, take-append-le, length-take}
use Rattle.std.specs.Io.{StartsWith}

-- A text that starts with another and more starts with the other.
pub starts_before : (old more new : List ℕ) → StartsWith new (old ++ more) → StartsWith new old
starts_before old more new starts =
    let shorter : length old ≤ length (old ++ more) = omega (arith, length-append old more) in
    sym (take-take (length old) (length (old ++ more)) new shorter)
    ∙ ap (take (length old)) starts
    ∙ take-append_seam old more

-- A text that starts with another still does where more is appended to it.
pub starts_still : (old new more : List ℕ) → StartsWith new old → StartsWith (new ++ more) old
starts_still old new more starts =
    let shorter : length old ≤ length new = omega
    (arith, ap length starts, length-take (length old) new) in
    take-append-le (length old) new more shorter ∙ starts

-- What `push_str` says where it appends.
pub OnOk-push_str :
    {T E : Type 0} (r : Result T E) (old more new text : List ℕ)
    → new ≡ (if is_ok r then old ++ more else old)
    → more ≡ text
    → OnOk r (new ≡ old ++ text)
OnOk-push_str (Ok x) old more new text pushed same = pushed ∙ ap (λ xs. old ++ xs) same
OnOk-push_str (Err e) old more new text pushed same = tt
