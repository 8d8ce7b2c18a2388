-- Which lines have a list behind their head.
use Rattle.std.specs.Prelude.{Option, None, Some}
use Rattle.hv_proof_text.specs.declared.token_rows.ListKind.{ListKind}
use Rattle.hv_proof_text.specs.declared.token_rows.ListKind.TheVariants as D
use Rattle.hv_proof_text.specs.declared.token.Letter.{Letter}
use Rattle.hv_proof_text.specs.declared.token.Letter.TheVariants as L

-- the list behind a head of these letters, if there is one
abbrev pub listed_by : Letter → Letter → Option ListKind
listed_by L.A L.B = Some D.Actions
listed_by L.E L.H = Some D.Horn
listed_by L.E L.D = Some D.Dual
listed_by L.E L.T = Some D.Two
listed_by L.E L.X = Some D.States
listed_by _ _ = None

-- the first letter of a head with this list behind it: that of its line
abbrev pub listed_letter : ListKind → Letter
listed_letter D.Actions = L.A
listed_letter D.Horn = L.E
listed_letter D.Dual = L.E
listed_letter D.Two = L.E
listed_letter D.States = L.E

-- the second letter of such a head: which list it is
abbrev pub listed_kind : ListKind → Letter
listed_kind D.Actions = L.B
listed_kind D.Horn = L.H
listed_kind D.Dual = L.D
listed_kind D.Two = L.T
listed_kind D.States = L.X
