-- One write after another of bytes that are known.
use Rattle.std.proofs.Common.{ℕ, List, ◌++◌, Option, None, Some, ap, ◌∙◌, append_assoc}
use Rattle.std.specs.Io.KnownBytes.{Appends}

pub appends_more : (a b c : Option (List ℕ)) (first second : List ℕ) → Appends a b first
    → Appends b c second → Appends a c (first ++ second)
appends_more None b c first second p q = tt
appends_more (Some x) None c first second p q = absurd p
appends_more (Some x) (Some y) None first second p q = absurd q
appends_more (Some x) (Some y) (Some z) first second p q = q ∙ ap (λ l. l ++ second) p
    ∙ append_assoc x first second
