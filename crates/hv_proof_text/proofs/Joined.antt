-- Fields behind one another, with a space before each.
use Rattle.std.proofs.Common.{◌≡◌, ℕ, ◌+◌, ◌<◌, ◌∙◌, List, [], ◌∷◌, ◌++◌, length, take, get_or}
use Rattle.std.proofs.Common.{Some, refl, sym, ap, append_assoc, decimal, slice_get}
use Rattle.std.proofs.lemmas.List.{append-nil, take_more}
use Rattle.std.proofs.lemmas.List.Concat.{flat_map-append}
use Rattle.std.proofs.lemmas.Option.{get_or_from_slice_get, slice_get_within}
use Rattle.std.proofs.lemmas.List.Sums.{fold-append}
use Rattle.std.specs.List.{flat_map, join_with_byte}
use Rattle.hv_lines.specs.Spelling.{proof_text, spelling_of}
use Rattle.hv_lines.specs.declared.line.Line.{Line}
use Rattle.hv_proof_text.specs.Working.Writing.{with_fields}

-- what is before stays before
front : (before text : List ℕ) (fields : List (List ℕ))
    → with_fields (before ++ text) fields ≡ before ++ with_fields text fields
front before text [] = refl
front before text (field ∷ fields) =
    ap (λ t. with_fields t fields) (append_assoc before text (32 ∷ field))
    ∙ front before (text ++ 32 ∷ field) fields

joined : (field : List ℕ) (fields : List (List ℕ))
    → with_fields field fields ≡ join_with_byte 32 (field ∷ fields)
joined field [] = refl
joined field (next ∷ fields) = front field (32 ∷ next) fields
    ∙ ap (λ t. field ++ t) (front (32 ∷ []) next fields ∙ ap (λ t. 32 ∷ t) (joined next fields))

-- a first field, a second one, and the others
pub spelled : (old letter first second new : List ℕ) (id : ℕ) (fields : List (List ℕ))
    → first ≡ old ++ letter → second ≡ first ++ 32 ∷ decimal id
    → new ≡ with_fields second fields → new ≡ old
    ++ join_with_byte 32 (letter ∷ decimal id ∷ fields)
spelled old letter first second new id fields at_first at_second at_new =
    at_new
    ∙ ap (λ t. with_fields t fields) at_second
    ∙ ap (λ t. with_fields (t ++ 32 ∷ decimal id) fields) at_first
    ∙ ap (λ t. with_fields t fields) (append_assoc old letter (32 ∷ decimal id))
    ∙ front old (letter ++ 32 ∷ decimal id) fields
    ∙ ap (λ t. old ++ t) (joined letter (decimal id ∷ fields))

-- some fields, one more, and further ones
pub further : (text third fourth new : List ℕ) (front_fields back_fields : List (List ℕ))
    (field : List ℕ) → third ≡ with_fields text front_fields
    → fourth ≡ third ++ 32 ∷ field → new ≡ with_fields fourth back_fields
    → new ≡ with_fields text (front_fields ++ field ∷ back_fields)
further text third fourth new front_fields back_fields field at_third at_fourth at_new =
    at_new
    ∙ ap (λ t. with_fields t back_fields) at_fourth
    ∙ ap (λ t. with_fields (t ++ 32 ∷ field) back_fields) at_third
    ∙ sym (fold-append (λ t f. t ++ 32 ∷ f) text front_fields (field ∷ back_fields))

-- one more line of a text
pub one_line_more : (lines : List Line) (i : ℕ) (line : Line) (before middle after : List ℕ)
    → i < length lines → slice_get lines i ≡ Some line
    → before ≡ proof_text (take i lines) → middle ≡ before ++ spelling_of line
    → after ≡ middle ++ 10 ∷ []
    → after ≡ proof_text (take (i + 1) lines)
one_line_more lines i line before middle after within at so_far spelled ended =
    ended
    ∙ ap (λ t. t ++ 10 ∷ []) spelled
    ∙ append_assoc before (spelling_of line) (10 ∷ [])
    ∙ ap (λ t. t ++ (spelling_of line ++ 10 ∷ [])) so_far
    ∙ ap (λ l. proof_text (take i lines) ++ (spelling_of l ++ 10 ∷ []))
    (sym (get_or_from_slice_get lines i line line at))
    ∙ ap (λ t. proof_text (take i lines) ++ t)
    (sym (append-nil (spelling_of (get_or lines i line) ++ 10 ∷ [])))
    ∙ sym (flat_map-append (λ l. spelling_of l ++ 10 ∷ []) (take i lines)
    (get_or lines i line ∷ []))
    ∙ ap proof_text (sym (take_more lines i line within))

-- one more line behind a text
pub line_appended : (lines : List Line) (i : ℕ) (line : Line) (old before middle after : List ℕ)
    → i < length lines → slice_get lines i ≡ Some line
    → before ≡ old ++ proof_text (take i lines) → middle ≡ before ++ spelling_of line
    → after ≡ middle ++ 10 ∷ [] → after ≡ old ++ proof_text (take (i + 1) lines)
line_appended lines i line old before middle after within at so_far spells ends =
    let front = proof_text (take i lines) in
    let bytes = spelling_of line in
    ends
    ∙ ap (λ t. t ++ 10 ∷ [])
    (spells ∙ ap (λ t. t ++ bytes) so_far ∙ append_assoc old front bytes)
    ∙ append_assoc old (front ++ bytes) (10 ∷ [])
    ∙ ap (λ t. old ++ t)
    (one_line_more lines i line front (front ++ bytes) ((front ++ bytes) ++ 10 ∷ []) within at refl
    refl refl)

-- the fields of one more item
pub items_more : {A : Type 0} (fields : A → List (List ℕ)) (xs : List A) (place : ℕ) (x : A)
    (old text new : List ℕ) → slice_get xs place ≡ Some x
    → text ≡ with_fields old (flat_map fields (take place xs)) → new ≡ with_fields text (fields x)
    → new ≡ with_fields old (flat_map fields (take (place + 1) xs))
items_more fields xs place x old text new is at_text at_new =
    at_new
    ∙ ap (λ t. with_fields t (fields x)) at_text
    ∙ sym (fold-append (λ t f. t ++ 32 ∷ f) old (flat_map fields (take place xs)) (fields x))
    ∙ ap (λ fs. with_fields old fs)
    (sym (ap (λ ys. flat_map fields ys) (take_more xs place x (slice_get_within xs place x is)
    ∙ ap (λ y. take place xs ++ y ∷ []) (get_or_from_slice_get xs place x x is))
    ∙ (flat_map-append fields (take place xs) (x ∷ [])
    ∙ ap (λ fs. flat_map fields (take place xs) ++ fs) (append-nil (fields x)))))
