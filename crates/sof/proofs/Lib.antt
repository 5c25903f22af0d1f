mod SameRuns
