use Rattle.sas_reader.proofs.Imports.{[], refl, sym, ap, ◌∙◌, length, lines-none, unfinished-none}
use Rattle.sas_reader.proofs.Standing.{stands_accepted}
use Rattle.sas_reader.proofs.Pieces.{reached_start}
use Rattle.sas_reader.proofs.reader.Reader.new.Goals as goal

pub returns-clause-stands : goal.returns-clause-stands
returns-clause-stands g c =
    stands_accepted g.M.Machine.behavior _ [] refl (record {
      reached = reached_start g.M.Machine.behavior c.args.machine c.requires.start;
      pending = c.new.ensures.pending ∙ sym unfinished-none;
      lines = ap length (sym lines-none);
      taken = refl;
    })
