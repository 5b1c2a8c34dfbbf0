-- Buffers that are not damaged are a store. Assumes nothing.
use Rattle.std.proofs.Common.{sym, ap, subst}
use Rattle.expressions.specs.Contents.{Sound}
use Rattle.engine.proofs.Sounds.{undamaged-sound}
use Rattle.engine.proofs.tracks.track.Goals as goal

pub invariant_of-store : goal.invariant_of-store
invariant_of-store c =
    let size = c.size-count.ensures in
    let s = subst (λ k. Sound (record { records = c.args.records.now; heads = c.args.heads.now; count = k })) (sym (ap (λ p. p.1) size.value))
    (undamaged-sound c.requires.undamaged size.begun size.within c.requires.records c.requires.heads) in
    record { begun = s.begun; room = s.room; chains = s.chains; formed = s.formed; chained = s.linked; headed = s.headed }
