mod Stretches
