-- Bytes that are taken or put in two steps.
use Rattle.std.proofs.Common.{ℕ, List, ◌++◌, Option, Some, None, sym, ap, ◌∙◌, append_assoc}
use Rattle.trace_io.specs.Outside.{Took, Put}

pub took_more :
    (a b c : Option (List ℕ)) (xs ys : List ℕ) → Took a xs b → Took b ys c → Took a (xs ++ ys) c
took_more None None None xs ys h k = tt
took_more None None (Some c) xs ys h k = absurd k
took_more None (Some b) c xs ys h k = absurd h
took_more (Some a) None c xs ys h k = absurd h
took_more (Some a) (Some b) None xs ys h k = absurd k
took_more (Some a) (Some b) (Some c) xs ys h k =
    h ∙ ap (λ z. xs ++ z) k ∙ sym (append_assoc xs ys c)

pub put_more :
    (a b c : Option (List ℕ)) (xs ys : List ℕ) → Put a xs b → Put b ys c → Put a (xs ++ ys) c
put_more a b None xs ys h k = tt
put_more a None (Some c) xs ys h k = absurd k
put_more None (Some b) (Some c) xs ys h k = absurd h
put_more (Some a) (Some b) (Some c) xs ys h k = k ∙ ap (λ z. z ++ ys) h ∙ append_assoc a xs ys
