use Rattle.std.proofs.Common.{ℕ, ◌+◌, ◌≤◌, ◌++◌, ◌∙◌, List, length, length-append, map, arith, ap}
use Rattle.std.proofs.Common.{refl}
use Rattle.std.proofs.lemmas.List.{length-map}
use Rattle.hv_bound.specs.Bounded.{amounts, counter_name}
use Rattle.hv_bound.proofs.Copying.{grown_names, length-amounts, made_amount, made_amounts}
use Rattle.hv_bound.proofs.Copying.{room_left}
use Rattle.hv_bound.proofs.bound.add_counters.Goals as goal

pub loop-left-init : goal.loop-left-init
loop-left-init c = record { same = refl; rest = refl }

pub add_atom-requires : goal.add_atom-requires
add_atom-requires c =
    let few : length (c.args.made.now.names ++ map counter_name (amounts 0 c.args.most)) ≤ 65535 =
    omega (
      arith,
      length-append c.args.made.now.names (map counter_name (amounts 0 c.args.most)),
      length-map (amounts 0 c.args.most) counter_name,
      length-amounts 0 c.args.most,
    ) in
    omega (
      arith,
      room_left c.loop-left.made.names (map counter_name (amounts c.loop-left.left c.args.most))
          (c.args.made.now.names ++ map counter_name (amounts 0 c.args.most)) 65535
          c.loop-left.invariant.rest few,
      length-map (amounts c.loop-left.left c.args.most) counter_name,
      length-amounts c.loop-left.left c.args.most,
    )

pub loop-left-preserved : goal.loop-left-preserved
loop-left-preserved c =
    let grown = grown_names c.args.made.now c.loop-left.made c.add_atom.new.self
    c.in_ok-counter_name.field-0 (counter_name c.loop-left.left) c.loop-left.invariant.same
    c.in_ok-add_atom.ensures.ok c.in_ok-counter_name.ensures in
    record {
      same = grown.0;
      rest = ap (λ xs. xs ++ map counter_name (amounts (c.loop-left.left + 1) c.args.most)) grown.1
          ∙ made_amount counter_name c.loop-left.made.names
          (c.args.made.now.names ++ map counter_name (amounts 0 c.args.most)) c.loop-left.left
          c.args.most (omega arith) c.loop-left.invariant.rest;
    }

pub returns : goal.returns
returns c =
    c.loop-left.invariant.same
    ∙ ap (λ (xs : List (List ℕ)). record c.args.made.now { names = xs })
    (made_amounts counter_name c.loop-left.made.names
    (c.args.made.now.names ++ map counter_name (amounts 0 c.args.most)) c.loop-left.left c.args.most
    (omega arith) c.loop-left.invariant.rest)
