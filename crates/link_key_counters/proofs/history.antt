mod Counters
