use Rattle.sas_reader.proofs.Imports.{◌≡◌, length, leb, arith, chunk, w8, bitmask_splat, length-chunk, run_in_chunk_le}
use Rattle.sas_reader.proofs.PlainBytes.{stops, none_stops, one_stops, are_plain}
use Rattle.sas_reader.proofs.scanning.plain_bytes.Goals as goal

pub returns-then-stops-eq0-clause-plain : goal.returns-then-stops-eq0-clause-plain
returns-then-stops-eq0-clause-plain c =
    let v = chunk c.args.at 32 c.args.bytes.now in
    let long : length v ≡ 32 = length-chunk c.args.at 32 c.args.bytes.now c.requires in
    let is = bitmask_splat w8 leb v 32 13 long (omega arith) in
    are_plain c.args.bytes.now c.args.at _ c.requires is 32 (none_stops c.args.bytes.now c.args.at _ c.requires is c.if-stops-eq0.true)

pub returns-else-stops-eq0-clause-most : goal.returns-else-stops-eq0-clause-most
returns-else-stops-eq0-clause-most c =
    let v = chunk c.args.at 32 c.args.bytes.now in
    let long : length v ≡ 32 = length-chunk c.args.at 32 c.args.bytes.now c.requires in
    let is = bitmask_splat w8 leb v 32 13 long (omega arith) in
    run_in_chunk_le stops c.args.bytes.now c.args.at 32 _ 0 c.requires (one_stops c.args.bytes.now c.args.at _ c.requires is c.if-stops-eq0.false)

pub returns-else-stops-eq0-clause-plain : goal.returns-else-stops-eq0-clause-plain
returns-else-stops-eq0-clause-plain c =
    let v = chunk c.args.at 32 c.args.bytes.now in
    let long : length v ≡ 32 = length-chunk c.args.at 32 c.args.bytes.now c.requires in
    let is = bitmask_splat w8 leb v 32 13 long (omega arith) in
    are_plain c.args.bytes.now c.args.at _ c.requires is _ (one_stops c.args.bytes.now c.args.at _ c.requires is c.if-stops-eq0.false)
