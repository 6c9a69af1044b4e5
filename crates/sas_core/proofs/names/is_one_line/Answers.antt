-- The search for LF and CR finds nothing if and only if each byte is plain.
use Rattle.sas_core.proofs.PlainBytes.{is_none-search}
use Rattle.sas_core.proofs.names.is_one_line.Goals as goal

pub returns : goal.returns
returns c = is_none-search _ _ _ c.memchr2.ensures c.is_none.ensures
