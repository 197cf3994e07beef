use Rattle.formats.proofs.Fair.{lists_lawful}
use Rattle.formats.proofs.sheet.reading.read_lists.Goals as goal

pub invariant_of-result : goal.invariant_of-result
invariant_of-result c = record {
  lawful = lists_lawful c.args.reader.now.total c.args.reader.now.rest.now c.in_ok-read_levels.ensures.read c.read_levels.ensures.total
      c.in_ok-read_images.ensures.read c.read_images.ensures.total c.in_ok-read_defects.ensures.read;
}
