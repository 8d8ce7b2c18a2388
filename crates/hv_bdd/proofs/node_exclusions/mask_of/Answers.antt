use Rattle.std.proofs.Common.{◌≡◌, ◌<◌, ◌%◌, ◌*◌, ℕ, Bool, true, false, arith, cond, refl}
use mir.Val.{bool_byte}
use Rattle.hv_bdd.proofs.Excluded.{mask_all, mask_none, mask_parted, mask_whole}
use Rattle.hv_bdd.proofs.node_exclusions.mask_of.Goals as goal

-- the end that isn't the one that is looked for
bad_end : (node : ℕ) (b : Bool) → node < 2 → (node ≡ bool_byte b → ⊥) → node ≡ cond b 0 1
bad_end node true less other = let e : node ≡ 1 → ⊥ = other in omega (arith, less, e)
bad_end node false less other = let e : node ≡ 0 → ⊥ = other in omega (arith, less, e)

pub returns-then-node-good : goal.returns-then-node-good
returns-then-node-good c =
    mask_all c.args.side.now.nodes.now c.args.side.now.inside c.atoms-atoms.ensures.reduced
    c.args.batch c.args.node

pub returns-else-node-good : goal.returns-else-node-good
returns-else-node-good c =
    mask_none c.args.side.now.nodes.now c.args.side.now.inside c.atoms-atoms.ensures.reduced
    c.args.batch c.args.node
    (bad_end c.args.node c.args.side.now.inside c.if-node-lt2.true c.if-node-good.false)

pub returns-then-listed-batch : goal.returns-then-listed-batch
returns-then-listed-batch c =
    mask_whole c.args.side.now.nodes.now c.args.side.now.inside c.atoms-atoms.ensures.reduced
    c.args.batch c.args.node c.args.masks.now c.node-listed.result c.if-node-lt2.false
    c.requires.node c.requires.size c.requires.masks c.node-listed.ensures.node

pub returns : goal.returns
returns c =
    mask_parted c.args.side.now.nodes.now c.args.side.now.inside c.atoms-atoms.ensures.reduced
    c.args.batch c.args.node c.args.masks.now c.node-listed.result c.if-node-lt2.false
    c.requires.node c.requires.size c.requires.masks c.node-listed.ensures.node
    c.without.result c.without-2.result (c.node-listed.result.atom % 32 * 2)
    c.if-listed-batch.false refl c.without.ensures c.without-2.ensures
